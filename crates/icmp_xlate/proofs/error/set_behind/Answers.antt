use Rattle.std.proofs.Common.{◌++◌, ℕ, List, take, drop, sym, ap, subst, ◌∙◌}
use Rattle.wire_ip4.proofs.GrammarLaws.{all_after}
use Rattle.wire_icmp.specs.Quoted.{SpellsReport}
use Rattle.icmp_xlate.specs.Translated.{translated}
use Rattle.icmp_xlate.proofs.Quotes.{put_behind}
use Rattle.icmp_xlate.proofs.ErrorPackets.{behind_taken}
use Rattle.icmp_xlate.proofs.error.set_behind.Goals as goal

pub returns-clause-value : goal.returns-clause-value
returns-clause-value c = λ r s there.
    let bytes : List ℕ = c.args.bytes.now in
    let part = subst (λ (l : List ℕ). SpellsReport l r) (sym (all_after 20 bytes)) s in
    put_behind 20 bytes c.set_quoted_place.new.message c.requires.header
    ∙ ap (λ (l : List ℕ). take 20 bytes ++ l) (c.set_quoted_place.ensures.value r part there)

pub returns-clause-reads_back : goal.returns-clause-reads_back
returns-clause-reads_back c = λ r s there.
    let bytes : List ℕ = c.args.bytes.now in
    let made : List ℕ = c.set_quoted_place.new.message in
    let part = subst (λ (l : List ℕ). SpellsReport l r) (sym (all_after 20 bytes)) s in
    let behind = ap (drop 20) (put_behind 20 bytes made c.requires.header) ∙ behind_taken 20 bytes made c.requires.header in
    subst (λ (l : List ℕ). SpellsReport l (translated c.args.source c.args.new r)) (sym behind)
    (c.set_quoted_place.ensures.reads_back r part there)
