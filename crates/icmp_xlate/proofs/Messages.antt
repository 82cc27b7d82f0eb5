-- An error in the bytes of its message, and of its packet, while it is translated.
use Rattle.std.proofs.Common.{◌≡◌, ℕ, ◌-◌, ◌≤◌, ◌<◌, ◌^◌, Bool, List, ◌++◌, length, take, drop, sym, ap, ◌∙◌}
use borrow.Rule.Slice.PartMut.{put_mid}
use Rattle.aftr_base.specs.Bytes.{u16_at, be16}
use Rattle.aftr_base.specs.Checksum.{adjusted}
use Rattle.aftr_base.specs.declared.value.Ext.{Ext}
use Rattle.wire_ip4.proofs.GrammarLaws.{all_after}
use Rattle.wire_icmp.specs.Quoted.{Quoted, quoted_bytes, quoted_place, SpellsQuoted, Report, report_bytes, SpellsReport}
use Rattle.icmp_xlate.specs.Translated.{quoted_with, quoted_words, words_with, translated}
use Rattle.icmp_xlate.proofs.Fronts.{place_replaced}
use Rattle.icmp_xlate.proofs.Quotes.{put_behind, is_quoted_with, behind_front, quote_put, sum_put, sum_read}

-- a quoted packet that other bytes spell too
spells_too : (bytes more : List ℕ) (q : Quoted) → SpellsQuoted more q → bytes ≡ quoted_bytes q → SpellsQuoted bytes q
spells_too bytes more q s e = record { header = s.header; plain = s.plain; first = s.first; front = s.front; spelled = e }

-- what follows the first 8 bytes of an error
behind : (message : List ℕ) (r : Report) → message ≡ report_bytes r
    → take (length message - 8) (drop 8 message) ≡ quoted_bytes r.quoted
behind message r e = all_after 8 message ∙ ap (drop 8) e ∙ behind_front r

pub part_spelled : (message : List ℕ) (r : Report) → SpellsReport message r
    → SpellsQuoted (take (length message - 8) (drop 8 message)) r.quoted
part_spelled message r s = spells_too _ (quoted_bytes r.quoted) r.quoted s.quotes (behind message r s.spelled)

-- a checksum that was updated for what was read is written
sum_written : (mid : List ℕ) (r : Report) (sum : ℕ) (before after : List ℕ) → mid ≡ report_bytes r → r.sum < 2 ^ 16
    → sum ≡ adjusted (u16_at 2 mid) before after
    → take 2 mid ++ be16 sum ++ drop 4 mid ≡ report_bytes (record r { sum = adjusted r.sum before after })
sum_written mid r sum before after e small summed =
    let right : sum ≡ adjusted r.sum before after =
    summed ∙ ap (λ (l : List ℕ). adjusted (u16_at 2 l) before after) e ∙ ap (λ (n : ℕ). adjusted n before after) (sum_read r small) in
    (λ i. take 2 (e i) ++ be16 (right i) ++ drop 4 (e i)) ∙ sum_put r (adjusted r.sum before after)

-- an error whose quoted packet was written
module _ (source : Bool) (old new : Ext) (message : List ℕ) (r : Report) (s : SpellsReport message r)
    (there : quoted_place source r.quoted ≡ old) (quoted : List ℕ) (le : 8 ≤ length message)
    (made : quoted ≡ quoted_bytes (quoted_with source new r.quoted)) where
  quote_written : put_mid 8 (length message - 8) message quoted ≡ report_bytes (record r { quoted = quoted_with source new r.quoted })
  quote_written =
      put_behind 8 message quoted le ∙ (λ i. take 8 (s.spelled i) ++ made i) ∙ quote_put r (quoted_with source new r.quoted)

  pub part_again : new.addr.0 < 2 ^ 32 → new.port < 2 ^ 16 → let mid = put_mid 8 (length message - 8) message quoted in
      SpellsQuoted (take (length mid - 8) (drop 8 mid)) (quoted_with source new r.quoted)
  part_again addr port =
      let q = quoted_with source new r.quoted in
      spells_too _ (quoted_bytes q) q (is_quoted_with source new (quoted_bytes r.quoted) r.quoted addr port s.quotes)
      (behind (put_mid 8 (length message - 8) message quoted) (record r { quoted = q }) quote_written)

  pub message_written : (sum : ℕ) (before after : List ℕ) → let mid = put_mid 8 (length message - 8) message quoted in
      before ≡ words_with old r.quoted → after ≡ words_with new (quoted_with source new r.quoted)
      → sum ≡ adjusted (u16_at 2 mid) before after
      → take 2 mid ++ be16 sum ++ drop 4 mid ≡ report_bytes (translated source new r)
  message_written sum before after was is summed =
      let q = quoted_with source new r.quoted in
      let mid = put_mid 8 (length message - 8) message quoted in
      let was' : before ≡ quoted_words source r.quoted = was ∙ ap (λ (e : Ext). words_with e r.quoted) (sym there) in
      let is' : after ≡ quoted_words source q = is ∙ ap (λ (e : Ext). words_with e q) (sym (place_replaced source new r.quoted)) in
      sum_written mid (record r { quoted = q }) sum before after quote_written s.sum summed
      ∙ (λ i. report_bytes (record r { quoted = q; sum = adjusted r.sum (was' i) (is' i) }))
