-- What files name, and what they go on naming.
use Rattle.std.specs.Prelude.{◌≡◌, ◌≤◌, ℕ, List, length, Ok}
use Rattle.aftr_base.specs.declared.told.Told.{Told}
use Rattle.aftr_base.specs.declared.value.Ip4.{Ip4}
use Rattle.aftr_base.specs.declared.value.Subscriber.{Subscriber}
use Rattle.lease_log.specs.Log.{Log, log_of}
use Rattle.trace_query.specs.Names.{names_of}

-- no place has two names at a moment
abbrev pub NamesOne : Told → Type 0
NamesOne t = (addr : Ip4) (port at : ℕ) → length (names_of t addr port at) ≤ 1

-- the file is a log that can be believed: no place has two names at a moment
pub record IsBelieved (file : List ℕ) : Type 0 where
  pub log : Log
  pub is_log : log_of file ≡ Ok log
  pub one : NamesOne log.told

-- the file names these holders of a place at a moment that its horizon reaches
pub record Holds (file : List ℕ) (addr : Ip4) (port at : ℕ) (names : List Subscriber) : Type 0 where
  pub log : Log
  pub is_log : log_of file ≡ Ok log
  pub named : names_of log.told addr port at ≡ names
  pub reached : at ≤ log.told.horizon.0

-- each of these files can be believed
abbrev pub AreBelieved : (List ℕ → Type 0) → Type 0
AreBelieved IsLeft = (file : List ℕ) → IsLeft file → IsBelieved file

-- what each of the first files names, each of the others names too
abbrev pub KeepsNames : (List ℕ → Type 0) → (List ℕ → Type 0) → Type 0
KeepsNames WasLeft IsLeft =
    (addr : Ip4) (port at : ℕ) (names : List Subscriber) → ((file : List ℕ) → WasLeft file → Holds file addr port at names)
    → (file : List ℕ) → IsLeft file → Holds file addr port at names
