-- Quotas refuse, and nothing goes to make room (RFC 6888 3): what is used lasts until its time has run out.
use Rattle.std.specs.Prelude.{◌≡◌, ◌⊎◌, ℕ, Bool, true, false, List, ◌∷◌, ◌++◌, Some, IfSome}
use Rattle.aftr_base.specs.declared.event.Event.{Event}
use Rattle.aftr_base.specs.declared.event.DropCause.{DropCause}
use Rattle.aftr_base.specs.declared.event.DropCause.TheVariants.{QuotaMappings, QuotaPeers, QuotaBlocks, AddressFull, PoolEmpty}
use Rattle.aftr_base.specs.declared.value.Ext.{Ext}
use Rattle.aftr_base.specs.declared.value.InnerKey.{InnerKey}
use Rattle.nat_mapping.specs.declared.row.Peer.{Peer}
use Rattle.nat_mapping.specs.Rows.{Mapping, has_peer, live_peers}
use Rattle.xlate_core.specs.Expiry.{at_moment}
use Rattle.xlate_core.specs.Rows.{find_out}
use Rattle.xlate_core.specs.Run.{run}
use Rattle.xlate_core.specs.State.{State}
use Rattle.xlate_core.specs.Step.{step}

-- the mapping of a key has this place, and is used for this remote endpoint
pub record IsUsedFor (key : InnerKey) (ext : Ext) (remote : Peer) (rows : List Mapping) : Type 0 where
  pub row : Mapping
  pub there : find_out key rows ≡ Some row
  pub place : row.ext ≡ ext
  pub used : has_peer remote row.peers ≡ true

-- the mapping is there, and its use for the endpoint doesn't last past the moment
pub record IsOver (key : InnerKey) (remote : Peer) (at : ℕ) (rows : List Mapping) : Type 0 where
  pub row : Mapping
  pub there : find_out key rows ≡ Some row
  pub over : has_peer remote (live_peers at row).peers ≡ false

-- so it was at one of the records
pub record HasRunOut (key : InnerKey) (remote : Peer) (s : State) (events : List Event) : Type 0 where
  pub seen : List Event
  pub next : Event
  pub rest : List Event
  pub split : events ≡ seen ++ next ∷ rest
  pub is_over : IsOver key remote next.at.0 (run s seen).state.rows

-- Whatever the records are, a mapping keeps its place and its remote endpoints until their time has run out.
abbrev pub EachUseLasts : Type 0
EachUseLasts = (s : State) (events : List Event) (key : InnerKey) (ext : Ext) (remote : Peer) → IsUsedFor key ext remote s.rows
    → IsUsedFor key ext remote (run s events).state.rows ⊎ HasRunOut key remote s events

-- a packet that was refused a place
abbrev pub is_refusal : DropCause → Bool
is_refusal QuotaMappings = true
is_refusal QuotaPeers = true
is_refusal QuotaBlocks = true
is_refusal AddressFull = true
is_refusal PoolEmpty = true
is_refusal other = false

-- It leaves all as it was at its moment, rows, peers, leases and deadlines, but for the pieces that it was put together from.
abbrev pub EachRefusalLeavesAll : Type 0
EachRefusalLeavesAll = (s : State) (e : Event) → IfSome (step s e).drop
    (λ cause. is_refusal cause ≡ true → (let before = (at_moment e.at.0 s).state in (step s e).state ≡ record before { kept = (step s e).state.kept }))
