-- The words of the command line.
use Rattle.std.specs.Prelude.{ℕ, ◌+◌, ◌-◌, ◌*◌, Bool, true, not, ◌&&◌, ◌==◌, nat_le, nat_lt, List, [], ◌∷◌, length, fold, bytes_eq, codes}
use Rattle.std.specs.Prelude.{Option, Some, None, option_map, option_and_then, if◌then◌else◌}
use Rattle.std.specs.List.{list_all, list_any}
use Rattle.aftr_base.specs.Bytes.{split_on}
use Rattle.aftr_base.specs.Value.{ip4, moment, is_within}
use Rattle.aftr_base.specs.declared.value.Ip4.{Ip4}
use Rattle.aftr_engine.specs.declared.words.Command.{Command}
use Rattle.aftr_engine.specs.declared.words.Command.TheVariants.{Init, Run, Trace, Leases}
use Rattle.aftr_engine.specs.declared.words.LogUse.{LogUse}
use Rattle.aftr_engine.specs.declared.words.LogUse.TheVariants.{Reads, Writes}
use Rattle.aftr_engine.specs.declared.words.Paths.{Paths}
use Rattle.aftr_base.specs.Limits.{log_moment_limit}

-- a word that is empty or looks like an option
abbrev pub is_odd : List ℕ → Bool
is_odd [] = true
is_odd (b ∷ word) = b == 45

-- ---- numbers and addresses

abbrev pub is_digits : List ℕ → Bool
is_digits word = nat_lt 0 (length word) && list_all (is_within 48 57) word

-- the number that decimal digits spell
abbrev pub value_of : List ℕ → ℕ
value_of digits = fold (λ n d. 10 * n + (d - 48)) 0 digits

-- a number up to a limit, whose leading zeros are accepted
abbrev pub number_upto : ℕ → List ℕ → Option ℕ
number_upto limit word = if is_digits word && nat_le (value_of word) limit then Some (value_of word) else None

-- a number without leading zeros
abbrev pub begins_well : List ℕ → Bool
begins_well [] = true
begins_well (b ∷ []) = true
begins_well (b ∷ c ∷ rest) = not (b == 48)

abbrev pub is_octet : List ℕ → Bool
is_octet text = is_digits text && nat_le (value_of text) 255 && begins_well text

-- four octets with dots between
abbrev pub address_in : List (List ℕ) → Option Ip4
address_in octets =
    if length octets == 4 && list_all is_octet octets then Some (ip4 (fold (λ n octet. 256 * n + value_of octet) 0 octets)) else None

abbrev pub address_of : List ℕ → Option Ip4
address_of word = address_in (split_on 46 word)

-- ---- commands

abbrev pub traced : Option Ip4 → Option ℕ → Option ℕ → Option Command
traced addr port at = option_and_then (λ (a : Ip4). option_and_then (λ (p : ℕ). option_map (λ (m : ℕ). Trace a p (moment m)) at) port) addr

-- init LOG, and leases LOG
abbrev pub with_one : List ℕ → Option Command
with_one name =
    if bytes_eq name (codes "init") then Some Init
    else if bytes_eq name (codes "leases") then Some Leases
    else None

-- run CONFIG LOG OUTLET INPUT, and trace LOG ADDRESS PORT MOMENT
abbrev pub with_four : List ℕ → List ℕ → List ℕ → List ℕ → Option Command
with_four name b c d =
    if bytes_eq name (codes "run") then Some Run
    else if bytes_eq name (codes "trace") then traced (address_of b) (number_upto 65535 c) (number_upto log_moment_limit d)
    else None

abbrev pub command_in : List (List ℕ) → Option Command
command_in (name ∷ a ∷ []) = with_one name
command_in (name ∷ a ∷ b ∷ c ∷ d ∷ []) = with_four name b c d
command_in other = None

-- the command that the words are, if they are one
abbrev pub command_for : List (List ℕ) → Option Command
command_for words = if list_any is_odd words then None else command_in words

-- ---- paths

-- where the words of a command have its paths
abbrev pub paths_with : Command → Paths
paths_with Init = record { config = None; log = Some 1; outlet = None; first = 0; count = 0 }
paths_with Run = record { config = Some 1; log = Some 2; outlet = Some 3; first = 4; count = 1 }
paths_with (Trace addr port at) = record { config = None; log = Some 1; outlet = None; first = 0; count = 0 }
paths_with Leases = record { config = None; log = Some 1; outlet = None; first = 0; count = 0 }

abbrev pub paths_for : List (List ℕ) → Option Paths
paths_for words = option_map paths_with (command_for words)

-- what a command does with its log
abbrev pub log_use : Command → LogUse
log_use Init = Writes
log_use Run = Writes
log_use (Trace addr port at) = Reads
log_use Leases = Reads

-- how many inputs the words name
abbrev pub input_count : Option Paths → ℕ
input_count None = 0
input_count (Some p) = p.count
