-- Lines one after another.
use Rattle.std.proofs.Common.{◌≡◌, ◌∙◌, ℕ, ◌+◌, ◌<◌, ◌≤◌, List, [], ◌∷◌, ◌++◌, length, take, get_or, refl, sym, ap, subst, append_assoc}
use Rattle.std.specs.Prelude.{◌⊎◌, Result, Ok, Err, IfErr, IsErrAnd}
use Rattle.std.proofs.lemmas.List.{take_more, append-nil, take_all}
use Rattle.std.specs.Io.KnownBytes.{Appends}
use Rattle.std.proofs.KnownBytes.{Appends-kept, Appends-nil, Appends-trans}
use Rattle.sup_specs.specs.Values.{Bytes}
use Rattle.sup_placement.specs.Place.{Weigher}
use Rattle.sup_jobs.specs.Ends.{KnownBytes}
use Rattle.sup_jobs.specs.declared.fault.Fault.{Fault}
use Rattle.sup_jobs.specs.declared.fault.Fault.TheVariants.{BadLine, BadInput, BadImage, Device, OutOfMemory}
use Rattle.sup_jobs.specs.Tells.{IsCutShort}
use Rattle.sup_jobs.proofs.Fronts.{cut_in_second}
use Rattle.sup_model.specs.Worlds.{ModelWorld}
use Rattle.sup_world.specs.FollowedSteps.{StandsFor}
use Rattle.sup_world.specs.SeenNodes.{SeenNode}
use Rattle.sup_lines.specs.declared.line.Line.{Line}
use Rattle.sup_program.specs.Prints.{Scene, PrintsLine, TellsMessages}
use Rattle.sup_program.specs.Plays.{PlaysLines, PrintsAllFrom, PrintsShortFrom, PrintsUntil}
use Rattle.sup_program.specs.PlayedLines.{SaysLine, PlaysLine}
use Rattle.sup_program.proofs.PlayedRunLaws.{line_run}
use Rattle.sup_model.proofs.Messages.{run_same}

-- lines that were played and written, and the model world that they reach
pub record PlaysTo (weigher : Weigher) (peers : List Bytes) (old : Scene) (lines : List Line) (sites : List SeenNode) (before written : KnownBytes) : Type 0 where
  pub printed : List ℕ
  pub reached : ModelWorld
  pub plays : PlaysLines weigher peers old lines printed (record { model = reached; sites = sites })
  pub stands : StandsFor weigher sites reached
  pub tells : TellsMessages reached.is_message
  pub writes : Appends before written printed

-- before the first line
pub begins : (weigher : Weigher) (peers : List Bytes) (old : ModelWorld) (sites : List SeenNode) (a : KnownBytes) → StandsFor weigher sites old → TellsMessages old.is_message → PlaysTo weigher peers (record { model = old; sites = sites }) [] sites a a
begins weigher peers old sites a h tells = record {
  printed = [];
  reached = old;
  plays = (refl, refl);
  stands = h;
  tells = tells;
  writes = Appends-nil a;
}

-- one line more
plays_one_more : (weigher : Weigher) (peers : List Bytes) (old : Scene) (lines : List Line) (line : Line) (printed said : List ℕ) (mid new : Scene) → PlaysLines weigher peers old lines printed mid → PrintsLine weigher peers mid line said new → PlaysLines weigher peers old (lines ++ line ∷ []) (printed ++ said) new
plays_one_more weigher peers old [] line printed said mid new h p =
    let p' : PrintsLine weigher peers old line said new = subst (λ (w : Scene). PrintsLine weigher peers w line said new) h.1 p in
    (said, new, [], p', (refl, refl), ap (λ (front : List ℕ). front ++ said) h.0 ∙ sym (append-nil said))
plays_one_more weigher peers old (first ∷ lines) line printed said mid new h p = (
  h.0,
  h.1,
  h.2 ++ said,
  h.3,
  plays_one_more weigher peers h.1 lines line h.2 said mid new h.4 p,
  ap (λ (front : List ℕ). front ++ said) h.5 ∙ append_assoc h.0 h.2 said,
)

module _ (weigher : Weigher) (peers : List Bytes) (old : Scene) (lines : List Line) (i : ℕ) (line : Line) (mid new : List SeenNode) (a b c : KnownBytes) (lt : i < length lines) (is : line ≡ get_or lines i line) (h : PlaysTo weigher peers old (take i lines) mid a b) (speaks : SaysLine weigher peers (record { model = h.reached; sites = mid }) line new) where
  all : take (i + 1) lines ≡ take i lines ++ line ∷ []
  all = take_more lines i line lt ∙ ap (λ (l : Line). take i lines ++ l ∷ []) (sym is)

  abbrev from : Scene
  from = record { model = h.reached; sites = mid }

  abbrev to : Scene
  to = record { model = speaks.after; sites = new }

  more : PlaysLines weigher peers old (take (i + 1) lines) (h.printed ++ speaks.said) to
  more = rw all (plays_one_more weigher peers old (take i lines) line h.printed speaks.said from to h.plays speaks.prints)

  same : speaks.after.is_message ≡ h.reached.is_message
  same = let run = line_run weigher peers from line speaks.said to speaks.prints in run_same h.reached run.0 run.1 speaks.after run.2

  -- a line whose text was written whole
  pub goes_on : Appends b c speaks.said → PlaysTo weigher peers old (take (i + 1) lines) new a c
  goes_on w = record {
    printed = h.printed ++ speaks.said;
    reached = speaks.after;
    plays = more;
    stands = speaks.prints.stands;
    tells = subst TellsMessages (sym same) h.tells;
    writes = Appends-trans a b c h.printed speaks.said h.writes w;
  }

  -- a line whose text was cut short
  pub cut_short : IsCutShort b c speaks.said → PrintsShortFrom weigher peers old lines a c
  cut_short w = record {
    made = i + 1;
    printed = h.printed ++ speaks.said;
    final = to;
    plays = more;
    short = cut_in_second a b c h.printed speaks.said h.writes w;
  }

-- a line that was cut short, or that there was no memory to print
pub ended : (weigher : Weigher) (peers : List Bytes) (old : Scene) (lines : List Line) (i : ℕ) (line : Line) (mid new : List SeenNode) (a b c : KnownBytes) (fault : Fault) → i < length lines → line ≡ get_or lines i line → (h : PlaysTo weigher peers old (take i lines) mid a b)
    → PlaysLine {X = Unit {0}} weigher peers (record { model = h.reached; sites = mid }) line new b c (Err fault) → PrintsUntil weigher peers old lines a c fault
ended weigher peers old lines i line mid new a b c (BadLine number) lt is h last = absurd last
ended weigher peers old lines i line mid new a b c BadInput lt is h last = absurd last
ended weigher peers old lines i line mid new a b c (BadImage reason) lt is h last = absurd last
ended weigher peers old lines i line mid new a b c Device lt is h last = cut_short weigher peers old lines i line mid new a b c lt is h last.0 last.1
ended weigher peers old lines i line mid new a b c OutOfMemory lt is h last = record {
  made = i;
  left = lt;
  printed = h.printed;
  final = record { model = h.reached; sites = mid };
  plays = h.plays;
  writes = Appends-kept a b c h.printed h.writes last.1;
}

-- what is known of a fault, of a result that is that fault
pub of_fault : {X : Type 0} (result : Result X Fault) (Q P : Fault → Type 0) (fault : Fault) → IsErrAnd result Q → ((f : Fault) → Q f → f ≡ fault) → P fault → IfErr result P
of_fault (Ok x) Q P fault err is h = tt
of_fault (Err f) Q P fault err is h = subst P (sym (is f err)) h

-- what all of the lines print
pub whole : (weigher : Weigher) (peers : List Bytes) (old : Scene) (lines : List Line) (i : ℕ) (mid : List SeenNode) (a b : KnownBytes) → length lines ≤ i → PlaysTo weigher peers old (take i lines) mid a b → PrintsAllFrom weigher peers old lines a b
whole weigher peers old lines i mid a b end h = record {
  printed = h.printed;
  final = record { model = h.reached; sites = mid };
  plays = rw (take_all i lines end) at h.plays;
  writes = h.writes;
}

module _ {weigher : Weigher} {peers : List Bytes} {s : Scene} {line : Line} {new : List SeenNode} where
  -- a line whose text was cut short
  pub said_short : {X : Type 0} (result : Result X Fault) (Q : Fault → Type 0) (a b : KnownBytes) (text : List ℕ) → IsErrAnd result Q → ((fault : Fault) → Q fault → fault ≡ Device) → (s' : (speaks : SaysLine weigher peers s line new) × (text ≡ speaks.said)) → IsCutShort a b text
      → PlaysLine weigher peers s line new a b result
  said_short (Ok x) Q a b text err is s' w = absurd err
  said_short {X} (Err fault) Q a b text err is s' w = subst (λ f. PlaysLine {X = X} weigher peers s line new a b (Err f)) (sym (is fault err)) (s'.0, subst (IsCutShort a b) s'.1 w)

  -- a line whose text was written whole
  pub said_all : (a b : KnownBytes) (text : List ℕ) → (s' : (speaks : SaysLine weigher peers s line new) × (text ≡ speaks.said)) → Appends a b text → (speaks : SaysLine weigher peers s line new) × Appends a b speaks.said
  said_all a b text s' w = (s'.0, rw s'.1 at w)
