use Rattle.std.proofs.Common.{◌≡◌, ◌+◌, ◌-◌, ◌<◌, map, true, false, not, ap, sym, ◌∙◌, arith}
use Rattle.std.proofs.lemmas.List.{get_or-replicate}
use Rattle.aftr_base.specs.Value.{place}
use Rattle.aftr_base.proofs.Searches.{find_passed}
use Rattle.nat_mapping.specs.Rows.{has_place, is_free, mapping_of}
use Rattle.nat_mapping.proofs.Parts.{find_first}
use Rattle.nat_mapping.proofs.ports.least_free_in.Goals as goal

pub mark_all-requires : goal.mark_all-requires
mark_all-requires c = λ i lt. get_or-replicate 16384 i false false lt

pub returns-then-not-taken-port : goal.returns-then-not-taken-port
returns-then-not-taken-port c =
    let at = c.loop-port.port - c.args.from in
    let lt : at < 16384 = omega arith in
    let there : c.args.from + at ≡ c.loop-port.port = omega arith in
    let mark : has_place c.args.proto (place c.args.addr c.loop-port.port) (map mapping_of c.args.rows.now) ≡ false =
    ap (λ port. has_place c.args.proto (place c.args.addr port) (map mapping_of c.args.rows.now)) (sym there)
    ∙ sym (c.mark_all.ensures at lt) ∙ c.if-not-taken-port.true in
    sym (find_first (is_free c.args.proto c.args.addr (map mapping_of c.args.rows.now)) c.loop-port.port c.args.until (omega arith)
    (ap not mark)) ∙ c.loop-port.invariant

pub loop-port-preserved : goal.loop-port-preserved
loop-port-preserved c =
    let at = c.loop-port.port - c.args.from in
    let lt : at < 16384 = omega arith in
    let there : c.args.from + at ≡ c.loop-port.port = omega arith in
    let mark : has_place c.args.proto (place c.args.addr c.loop-port.port) (map mapping_of c.args.rows.now) ≡ true =
    ap (λ port. has_place c.args.proto (place c.args.addr port) (map mapping_of c.args.rows.now)) (sym there)
    ∙ sym (c.mark_all.ensures at lt) ∙ c.if-not-taken-port.false in
    sym (find_passed (is_free c.args.proto c.args.addr (map mapping_of c.args.rows.now)) c.loop-port.port c.args.until (omega arith)
    (ap not mark)) ∙ c.loop-port.invariant
