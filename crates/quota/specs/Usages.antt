-- What each subscriber has: a map that is zero nearly everywhere.
use Rattle.std.specs.Prelude.{ℕ, Bool, not, ◌&&◌, ◌==◌, List, unwrap_or}
use Rattle.std.specs.Map.{lookup}
use Rattle.aftr_base.specs.declared.value.Subscriber.{Subscriber}
use Rattle.quota.specs.declared.Usage.{Usage}
use Rattle.quota.specs.declared.Owner.{Owner}
use Rattle.quota.specs.contracts.OwnerPartialEq.TheImpl as owner_eq

-- what is counted, and for how many more subscribers there is room
pub record Counted : Type 0 where
  pub entries : List (Owner × Usage)
  pub spare : ℕ

abbrev pub nothing : Usage
nothing = record { mappings = 0; peers = 0; blocks = 0 }

abbrev pub is_nothing : Usage → Bool
is_nothing u = u.mappings == 0 && u.peers == 0 && u.blocks == 0

abbrev pub owner_of : Subscriber → Owner
owner_of s = record { bits = s.0.bits.0; len = s.0.len }

abbrev pub is_owner : Subscriber → Owner → Bool
is_owner s = (owner_eq.ghosts).eq (owner_of s)

-- what a subscriber has: nothing where it isn't counted
abbrev pub usage_in : Subscriber → List (Owner × Usage) → Usage
usage_in s entries = unwrap_or (lookup (is_owner s) entries) nothing

abbrev pub usage_of : Subscriber → Counted → Usage
usage_of s counts = usage_in s counts.entries

-- a subscriber that has something is counted
abbrev pub is_known : Subscriber → Counted → Bool
is_known s counts = not (is_nothing (usage_of s counts))
