use Rattle.std.proofs.Common.{◌≡◌, ◌≤◌, ◌+◌, false, length, sym, subst}
use Rattle.std.specs.Prelude.{Result, Option, IfOk, IfSome}
use Rattle.frag_reasm.specs.Keys.{is_six}
use Rattle.frag_reasm.specs.Offers.{offered}
use Rattle.frag_reasm.specs.Whole.{held}
use Rattle.ingress.specs.Gathering.{IsGathered, IsPlainHead, gathered}
use Rattle.ingress.proofs.Kept.{IsOffered, answered, did_kept, did_whole, if_weaker, offered_kept}
use Rattle.ingress.specs.declared.gather.Gathered.{Gathered}
use Rattle.ingress.specs.declared.refusal.Refusal.{Refusal}
use Rattle.ingress.proofs.gather.take.Goals as goal

came : (c : goal.After-answer)
    → IsOffered c.args.key (offered c.args.key (held c.args.piece) c.args.now c.args.pieces.now)
came c = offered_kept c.args.key (held c.args.piece) c.args.now c.args.pieces.now c.requires.kept c.requires.piece

whole : (c : goal.After-answer) → IfOk c.answer.result (λ brought. IfSome brought (IsGathered c.args.key))
whole c =
    let P : Gathered → Type 0 = IsGathered c.args.key in
    subst (λ (r : Result (Option Gathered) Refusal). IfOk r (λ brought. IfSome brought P)) (sym c.answer.ensures)
    (answered P c.offer.result
    (did_whole (λ head bytes. P (gathered head bytes)) c.offer.result c.args.pieces.now c.offer.new.self
    (offered c.args.key (held c.args.piece) c.args.now c.args.pieces.now) c.offer.ensures.does (came c).whole))

pub returns-clause-kept : goal.returns-clause-kept
returns-clause-kept c =
    did_kept c.offer.result c.args.pieces.now c.offer.new.self (offered c.args.key (held c.args.piece) c.args.now c.args.pieces.now)
    c.offer.ensures.does c.requires.kept (came c).kept

pub returns-clause-head : goal.returns-clause-head
returns-clause-head c =
    if_weaker (IsGathered c.args.key) (λ g. is_six c.args.key ≡ false → IsPlainHead g.head) (λ g is. is.head) c.answer.result (whole c)

pub returns-clause-short : goal.returns-clause-short
returns-clause-short c =
    if_weaker (IsGathered c.args.key) (λ g. is_six c.args.key ≡ false → 20 + length g.bytes ≤ 65535) (λ g is. is.short) c.answer.result
    (whole c)
