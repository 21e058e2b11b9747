-- How each program and each command is called, as it is told (this project's texts).
use Rattle.std.specs.Prelude.{ℕ, List, ◌++◌, codes}
use Rattle.sup_about.specs.declared.asked.Command.{Command}
use Rattle.sup_about.specs.declared.asked.Command.TheVariants.{Simulate, Cluster, Place, Inspect}
use Rattle.sup_about.specs.declared.asked.Program.{Program}
use Rattle.sup_about.specs.declared.asked.Program.TheVariants.{Supctl, Supd, Supdraw}

abbrev pub settings_lines : List ℕ
settings_lines =
    codes "      --weigh <sha256|flat>    How members are weighed for children: sha256 or flat [default: sha256]\n"
    ++ codes "      --intensity <0 to 1000>  How many restarts within a period a node bears, 0 to 1000 [default: 1]\n"
    ++ codes "      --period <1 to 1000000>  How many seconds a restart counts, 1 to 1000000 [default: 5]\n"
    ++ codes "      --buffer <1 to 1024>     How many of its newest changes a node keeps to send, 1 to 1024 [default: 64]\n"

abbrev pub supctl_help : List ℕ
supctl_help =
    codes "A replicated supervisor: scripts over a cluster of nodes, runs by threads, placement, and stored images\n"
    ++ codes "\n"
    ++ codes "Usage: supctl <COMMAND>\n"
    ++ codes "\n"
    ++ codes "Commands:\n"
    ++ codes "  simulate  Runs the script on standard input, and prints what each of its lines is answered\n"
    ++ codes "  cluster   Runs the script on standard input by threads, and prints what its nodes know at the end\n"
    ++ codes "  place     Prints the member on which each child that standard input names is placed\n"
    ++ codes "  inspect   Prints what the image of a node on standard input tells, and begins no boot\n"
    ++ codes "\n"
    ++ codes "Options:\n"
    ++ codes "  -h, --help     Print help; behind a command, how that command is called\n"
    ++ codes "      --version  Print the version, the kit, and whether this program is proved\n"

abbrev pub simulate_help : List ℕ
simulate_help =
    codes "Runs the script on standard input, and prints what each of its lines is answered\n"
    ++ codes "\n"
    ++ codes "Usage: supctl simulate [OPTIONS]\n"
    ++ codes "\n"
    ++ codes "Options:\n"
    ++ settings_lines
    ++ codes "  -h, --help                   Print help\n"

abbrev pub cluster_help : List ℕ
cluster_help =
    codes "Runs the script on standard input by threads, and prints what its nodes know at the end\n"
    ++ codes "\n"
    ++ codes "Usage: supctl cluster [OPTIONS]\n"
    ++ codes "\n"
    ++ codes "Options:\n"
    ++ settings_lines
    ++ codes "  -h, --help                   Print help\n"

abbrev pub place_help : List ℕ
place_help =
    codes "Prints the member on which each child that standard input names is placed\n"
    ++ codes "\n"
    ++ codes "Usage: supctl place [OPTIONS]\n"
    ++ codes "\n"
    ++ codes "Options:\n"
    ++ codes "      --weigh <sha256|flat>  How members are weighed for children: sha256 or flat [default: sha256]\n"
    ++ codes "  -h, --help                 Print help\n"

abbrev pub inspect_help : List ℕ
inspect_help =
    codes "Prints what the image of a node on standard input tells, and begins no boot\n"
    ++ codes "\n"
    ++ codes "Usage: supctl inspect [OPTIONS]\n"
    ++ codes "\n"
    ++ codes "Options:\n"
    ++ codes "      --weigh <sha256|flat>  How members are weighed for children: sha256 or flat [default: sha256]\n"
    ++ codes "  -h, --help                 Print help\n"

abbrev pub supd_help : List ℕ
supd_help =
    codes "One node of a cluster of supervisors: answers each line on standard input, and keeps its image in a file\n"
    ++ codes "\n"
    ++ codes "Usage: supd NAME --image FILE [OPTIONS]\n"
    ++ codes "\n"
    ++ codes "Options:\n"
    ++ codes "      --image <FILE>           Where the image of the node is kept\n"
    ++ settings_lines
    ++ codes "  -h, --help                   Print help\n"
    ++ codes "      --version                Print the version, the kit, and whether this program is proved\n"

abbrev pub supdraw_help : List ℕ
supdraw_help =
    codes "Draws the script on standard input, as a picture in SVG\n"
    ++ codes "\n"
    ++ codes "Usage: supdraw < SCRIPT > FILE.svg\n"
    ++ codes "\n"
    ++ codes "Options:\n"
    ++ codes "  -h, --help     Print help\n"
    ++ codes "      --version  Print the version, the kit, and whether this program is proved\n"

abbrev pub program_help : Program → List ℕ
program_help Supctl = supctl_help
program_help Supd = supd_help
program_help Supdraw = supdraw_help

abbrev pub command_help : Command → List ℕ
command_help Simulate = simulate_help
command_help Cluster = cluster_help
command_help Place = place_help
command_help Inspect = inspect_help
