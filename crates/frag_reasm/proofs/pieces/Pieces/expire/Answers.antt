use Rattle.std.proofs.Common.{rules, ◌∙◌, sym, ap, subst, ◌+◌, ◌-◌, ◌≡◌, ℕ, arith}
use Rattle.std.specs.Prelude.{nat_lt}
use Rattle.std.proofs.lemmas.Fn.{filter_same}
use Rattle.std.proofs.lemmas.Bool.Decides.{nat_tests}
use Rattle.frag_reasm.specs.declared.pieces.PartialDatagram.{PartialDatagram}
use Rattle.frag_reasm.specs.Offers.{live, IsSound}
use Rattle.frag_reasm.proofs.Sound.{sound_filter}
use Rattle.frag_reasm.proofs.pieces.Pieces.expire.Goals as goal

-- the difference is less exactly where the sum is more
in_time : (now since : ℕ) → nat_lt (now - since) 60000 ≡ nat_lt now (since + 60000)
in_time now since = grind (arith, nat_tests)

pub invariant_of-self : goal.invariant_of-self
invariant_of-self c =
    subst IsSound (sym (filter_same _ (λ (d : PartialDatagram). nat_lt c.args.now.0 (d.since.0 + 60000)) _
    (λ x b f' k. search (rules, in_time)) _ _ c.retain.ensures.filtered))
    (sound_filter (λ (d : PartialDatagram). nat_lt c.args.now.0 (d.since.0 + 60000)) c.self.inside.datagrams.items c.self.invariant)

pub returns : goal.returns
returns c =
    filter_same _ (λ (d : PartialDatagram). nat_lt c.args.now.0 (d.since.0 + 60000)) _
    (λ x b f' k. search (rules, in_time)) _ _ c.retain.ensures.filtered
    ∙ ap (live c.args.now.0) c.self.view_is
