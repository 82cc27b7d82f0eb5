use Rattle.std.proofs.Common.{◌≡◌, ◌+◌, ◌++◌, ℕ, List, [], length, take, sym, ap, ◌∙◌, arith}
use Rattle.wire_ip4.specs.Grammar.{Header, header_bytes, packet_of}
use Rattle.softwire.proofs.Cuts.{on_ok, same_read, read_bare, whole_is}
use Rattle.softwire.proofs.CutTold.{told}
use Rattle.softwire.proofs.Joins.{joins_again}
use Rattle.softwire.proofs.cut.cut4.Goals as goal

pub cut_with-requires-clause-packet : goal.cut_with-requires-clause-packet
cut_with-requires-clause-packet c =
    let bytes : List ℕ = c.args.datagram.now in
    let x = c.in-Ok.packet in
    let (h, payload, again, none, whole) = c.requires.packet in
    let bare : x.0.options ≡ [] = read_bare bytes x (h, payload) c.in-Ok.ensures.value again none in (
      x.0,
      x.1,
      sym c.fields.ensures.value,
      bare,
      c.front_of-whole.ensures ∙ ap (λ (l : List ℕ). take (20 + length l) bytes) c.payload.ensures
          ∙ whole_is bytes x c.in-Ok.ensures.spelled bare,
    )

pub returns-clause-ok : goal.returns-clause-ok
returns-clause-ok c =
    let bytes : List ℕ = c.args.datagram.now in
    let x = c.in-Ok.packet in
    on_ok c.cut_with.result
    (λ added h payload again none.
    let one = same_read (packet_of bytes) x (h, payload) c.in-Ok.ensures.value again in
    let bare : x.0.options ≡ [] = read_bare bytes x (h, payload) c.in-Ok.ensures.value again none in
    added h payload (sym (c.fields.ensures.value ∙ ap (λ (y : Header × List ℕ). y.0.fields) one)) none
    (c.front_of-whole.ensures ∙ ap (λ (l : List ℕ). take (20 + length l) bytes) c.payload.ensures
    ∙ whole_is bytes x c.in-Ok.ensures.spelled bare ∙ ap (λ (y : Header × List ℕ). header_bytes y.0 ++ y.1) one))
    c.cut_with.ensures.ok

pub returns-clause-joins : goal.returns-clause-joins
returns-clause-joins c payload = joins_again c.args.mtu 20 payload (omega (arith, c.requires.mtu))

pub returns-clause-tells : goal.returns-clause-tells
returns-clause-tells c =
    told c.args.mtu c.args.datagram.now c.in-Ok.packet (omega (arith, c.requires.mtu)) c.in-Ok.ensures.value c.in-Ok.ensures.spelled
