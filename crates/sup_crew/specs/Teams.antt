-- What is said of a team, and of two teams side by side. (This project.)
use Rattle.std.specs.Prelude.{All}
use Rattle.std.specs.List.{AllZip}
use Rattle.sup_crew.specs.declared.team.Team.{Team}

-- P holds of the one that leads, and Q of each of the others
abbrev pub AllOfTeam : {K J : Type 0} → (K → Type 0) → (J → Type 0) → Team K J → Type 0
AllOfTeam P Q team = P team.lead × All Q team.others.items

-- R holds of the two that lead, and S of the others at each place, which are as many
abbrev pub TeamZip : {K J U T : Type 0} → (K → U → Type 0) → (J → T → Type 0) → Team K J → Team U T → Type 0
TeamZip R S team done = R team.lead done.lead × AllZip S team.others.items done.others.items
