use Rattle.std.proofs.Common.{◌≡◌, ◌++◌, true, List, ℕ, ap, ◌∙◌, subst, sym, arith}
use Rattle.cfg_text.specs.Accepted.{is_accepted}
use Rattle.cfg_text.proofs.Facts.{facts}
use Rattle.softwire.specs.Cut.{cut_packet}
use Rattle.softwire.specs.Reading.{AreWithin}
use Rattle.softwire.proofs.Lengths.{packets_short}
use Rattle.xlate_core.specs.State.{State}
use Rattle.xlate_core.proofs.Datagrams.{whole_len}
use Rattle.xlate_core.proofs.translator.Core.cut_for_public.Goals as goal

pub cut_with-requires-clause-mtu : goal.cut_with-requires-clause-mtu
cut_with-requires-clause-mtu c = (facts c.self.inside.config c.self.invariant.0).public_least

pub returns-clause-packets : goal.returns-clause-packets
returns-clause-packets c = λ h payload fields bare is.
    c.in_ok-cut_with.ensures.ok h payload fields bare is
    ∙ ap (λ (l : List (List ℕ)). l ++ cut_packet c.self.inside.config.public_mtu h payload) c.new-packets.ensures
    ∙ ap (λ (s : State). cut_packet s.config.public_mtu h payload) c.self.view_is

pub returns-clause-short : goal.returns-clause-short
returns-clause-short c =
    let (h, payload, fields, bare, is) = c.requires.packet in
    let mtu = c.self.inside.config.public_mtu in
    let least = (facts c.self.inside.config c.self.invariant.0).public_least in
    let cut = c.in_ok-cut_with.ensures.ok h payload fields bare is ∙ ap (λ (l : List (List ℕ)). l ++ cut_packet mtu h payload) c.new-packets.ensures in
    let long = whole_len h payload c.args.packet.now bare is in
    subst (AreWithin 65535) (sym cut) (packets_short mtu h payload (omega (arith, least)) (omega (arith, long, c.requires.short)) bare)

pub returns-clause-accepted : goal.returns-clause-accepted
returns-clause-accepted c = subst (λ (s : State). is_accepted s.config ≡ true) c.self.view_is c.self.invariant.0
