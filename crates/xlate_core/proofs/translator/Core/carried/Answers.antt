use Rattle.std.proofs.Common.{◌++◌, ◌∷◌, [], ℕ, List, Vec, Global, length, ap, ◌∙◌, arith}
use Rattle.cfg_text.proofs.Facts.{facts}
use Rattle.softwire.specs.Tunnel.{carrier, tunnel_fields}
use Rattle.xlate_core.specs.State.{State}
use Rattle.xlate_core.proofs.Datagrams.{carried_len, last_of}
use Rattle.xlate_core.proofs.translator.Core.carried.Goals as goal

pub returns-clause-bytes : goal.returns-clause-bytes
returns-clause-bytes c =
    let inner = c.args.inner.now in
    let sent = carrier c.self.inside.config.aftr c.args.softwire 0 inner in
    let one = c.into_vec.ensures ∙ c.in_ok-encap.ensures.ok ∙ ap (λ (l : List (List ℕ)). l ++ sent ∷ []) c.new-packets.ensures in
    last_of (λ (v : Vec ℕ Global). v.items) c.pop.new.self.items c.into_vec.result.items c.in-Some.bytes sent one c.in-Some.ensures.items
    ∙ ap (λ (s : State). carrier s.config.aftr c.args.softwire 0 inner) c.self.view_is

pub returns-clause-short : goal.returns-clause-short
returns-clause-short c =
    let config = c.self.inside.config in
    let inner = c.args.inner.now in
    let fields = tunnel_fields config.aftr c.args.softwire 0 4 (length inner) in
    let sent = carrier config.aftr c.args.softwire 0 inner in
    let one = c.into_vec.ensures ∙ c.in_ok-encap.ensures.ok ∙ ap (λ (l : List (List ℕ)). l ++ sent ∷ []) c.new-packets.ensures in
    let made =
    last_of (λ (v : Vec ℕ Global). v.items) c.pop.new.self.items c.into_vec.result.items c.in-Some.bytes sent one c.in-Some.ensures.items in
    let mtu = ap (λ (s : State). s.config.softwire_mtu) c.self.view_is in
    let most = (facts config c.self.invariant.0).softwire_most in
    omega (arith, ap (λ (l : List ℕ). length l) made, carried_len fields inner, c.requires, mtu, most)
