-- The peers of TCP connections whose state an inbound segment moves.
use Rattle.std.proofs.Common.{◌≡◌, ℕ, ◌+◌, ◌==◌, Bool, true, false, cond, ◌||◌, List, [], ◌∷◌, find, Option, Some, None, IfSome, refl, zero, suc, ap, ◌∙◌}
use Rattle.std.specs.Prelude.{slice_get}
use Rattle.std.specs.List.{list_any}
use Rattle.aftr_base.specs.declared.value.Ext.{Ext}
use Rattle.aftr_base.specs.declared.value.Proto.{Proto}
use Rattle.aftr_base.specs.declared.value.Proto.TheVariants.{Tcp, Udp, Icmp}
use Rattle.aftr_base.proofs.Founds.{mapped_some, some_inj}
use Rattle.cfg_text.specs.declared.config.Config.{Config}
use Rattle.nat_mapping.specs.declared.row.Peer.{Peer}
use Rattle.nat_mapping.specs.Rows.{Mapping, has_peer, has_peer_at, same_peer}
use Rattle.tcp_track.specs.declared.TcpState.{TcpState}
use Rattle.tcp_track.specs.States.{next}
use Rattle.xlate_core.specs.Endpoints.{endpoint, idle_ms, inbound_peer, peer_at, state_inbound, state_number}

any_by : {X : Type 0} (b rest : Bool) (x y : X) (o : Option X) → (o ≡ Some y → rest ≡ true) → cond b (Some x) o ≡ Some y
    → (b || rest) ≡ true
any_by true rest x y o later h = refl
any_by false rest x y o later h = later h

-- one passes where one was found
found_any : {X : Type 0} (p : X → Bool) (xs : List X) (y : X) → find p xs ≡ Some y → list_any p xs ≡ true
found_any p [] y h = cc
found_any p (x ∷ xs) y h = any_by (p x) (list_any p xs) x y (find p xs) (λ e. found_any p xs y e) h

moved_by : (P : Peer → Type 0) (b : Bool) (p : Peer) → P p → IfSome (cond b None (Some p)) P
moved_by P true p h = tt
moved_by P false p h = h

-- a peer that is moved was there
pub moved_known : (c : Config) (now : ℕ) (proto : Proto) (remote : Ext) (flags : ℕ) (state : TcpState) (peers : List Peer)
    → state_inbound proto remote peers ≡ Some state
    → IfSome (inbound_peer c now remote flags state) (λ (p : Peer). has_peer p peers ≡ true)
moved_known c now Udp remote flags state peers h = cc
moved_known c now Icmp remote flags state peers h = cc
moved_known c now Tcp remote flags state peers h =
    let test = same_peer (endpoint Tcp remote) in
    let (q, found, same) = mapped_some (λ (p : Peer). p.state) (find test peers) state h in
    let after = next state flags false in
    moved_by (λ (p : Peer). has_peer p peers ≡ true) (state_number after == state_number state)
    (peer_at Tcp remote after (now + idle_ms c Tcp after)) (found_any test peers q found)

-- a peer of the row that stands there
pub has_there : (p : Peer) (rows : List Mapping) (i : ℕ) (r : Mapping) → slice_get rows i ≡ Some r → has_peer p r.peers ≡ true
    → has_peer_at i p rows ≡ true
has_there p [] i r h k = cc
has_there p (q ∷ rows) zero r h k = ap (λ (x : Mapping). has_peer p x.peers) (some_inj q r h) ∙ k
has_there p (q ∷ rows) (suc i) r h k = has_there p rows i r h k
