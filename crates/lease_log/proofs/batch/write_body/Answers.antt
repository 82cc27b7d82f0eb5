use Rattle.std.proofs.Common.{refl, ap, ◌∙◌, ◌++◌, ◌∷◌, [], List, ℕ, ◌≡◌, ◌+◌, length}
use Rattle.aftr_base.specs.Bytes.{be32}
use Rattle.ipfix_writer.specs.Grammar.{sets_bytes, message_len, head_bytes}
use Rattle.nat_events.specs.Spelling.{template_set}
use Rattle.lease_log.specs.Prepared.{head_at, message_with, set_of_records}
use Rattle.lease_log.proofs.BatchLaws.{body_of_parts, len_of_parts}
use Rattle.lease_log.proofs.batch.write_body.Goals as goal

-- what was written last, behind what was written before
then_more : (before now more part : List ℕ) (all : List ℕ) → now ≡ before ++ more → more ≡ part → before ≡ all → now ≡ all ++ part
then_more before now more part all is same was = is ∙ ap (λ (l : List ℕ). before ++ l) same ∙ ap (λ (l : List ℕ). l ++ part) was

pub returns-clause-bytes : goal.returns-clause-bytes
unfolding be32
returns-clause-bytes c =
    let s = c.args.sets.now in
    let at = c.args.at.0 in
    let count = c.args.count in
    let set = λ (id : ℕ) (l : List ℕ). sets_bytes (set_of_records id l) in
    let len : ℕ = 84 + c.set_len.result + c.set_len-2.result + c.set_len-3.result in
    let is_len : len ≡ message_len (message_with at count s) =
    len_of_parts at count s c.set_len.result c.set_len-2.result c.set_len-3.result
    (c.set_len.ensures.value 257 ∙ ap (λ (l : List ℕ). length (set 257 l)) c.as_slice-horizon.ensures)
    (c.set_len-2.ensures.value 258 ∙ ap (λ (l : List ℕ). length (set 258 l)) c.as_slice-plan.ensures)
    (c.set_len-3.ensures.value 256 ∙ ap (λ (l : List ℕ). length (set 256 l)) c.as_slice-blocks.ensures) in
    let none = c.clear.new.self.items in
    let v₁ = then_more _ _ _ (be32 len) none c.write.ensures.bytes c.to_be_bytes.ensures refl in
    let v₂ = then_more _ _ _ (head_bytes len (head_at at count)) _ c.write-2.ensures.bytes c.header.ensures v₁ in
    let v₃ = then_more _ _ _ template_set _ c.write-3.ensures.bytes c.template_set.ensures v₂ in
    let v₄ = then_more _ _ _ (set 257 s.horizon) _ c.write_set.ensures.bytes (ap (set 257) c.as_slice-horizon.ensures) v₃ in
    let v₅ = then_more _ _ _ (set 258 s.plan) _ c.write_set-2.ensures.bytes (ap (set 258) c.as_slice-plan.ensures) v₄ in
    let v₆ = then_more _ _ _ (set 256 s.blocks) _ c.write_set-3.ensures.bytes (ap (set 256) c.as_slice-blocks.ensures) v₅ in
    then_more _ _ _ (0 ∷ []) _ c.write-4.ensures.bytes refl v₆ ∙ body_of_parts at count len s none c.clear.ensures.items is_len
