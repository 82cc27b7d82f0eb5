use Rattle.std.proofs.Common.{◌≡◌, ◌≤◌, ◌++◌, List, ℕ, length, ap, arith}
use Rattle.aftr_base.specs.declared.value.Ext.{Ext}
use Rattle.wire_ip4.specs.Grammar.{header_bytes}
use Rattle.wire_l4.specs.Grammar.{transport_bytes}
use Rattle.icmp_xlate.specs.Translated.{readdressed}
use Rattle.icmp_xlate.proofs.Quotes.{front_after, places_put}
use Rattle.icmp_xlate.proofs.quote.set_places.Goals as goal

pub set_front-requires-clause-quotes : goal.set_front-requires-clause-quotes
set_front-requires-clause-quotes c =
    let (q, s, there) = c.requires.quotes in
    let mid : List ℕ = c.readdress.new.bytes in
    let made : mid ≡ header_bytes (readdressed c.args.source c.args.new.addr q.header) ++ transport_bytes q.front =
    c.readdress.ensures.value q.header (transport_bytes q.front) s.header s.plain s.spelled in
    (q.front, front_after c.args.source c.args.old c.args.new c.args.quoted.now mid q s made, ap (λ (e : Ext). e.port) there)

pub returns : goal.returns
returns c =
    let mid : List ℕ = c.readdress.new.bytes in
    let long : 20 ≤ length mid = omega (arith, c.requires.header, c.readdress.auto.bytes) in
    record {
      value = λ q s there.
          let made : mid ≡ header_bytes (readdressed c.args.source c.args.new.addr q.header) ++ transport_bytes q.front =
          c.readdress.ensures.value q.header (transport_bytes q.front) s.header s.plain s.spelled in
          places_put c.args.source c.args.old c.args.new c.args.quoted.now mid q s made c.set_front.new.front long there
          (c.set_front.ensures.value q.front (front_after c.args.source c.args.old c.args.new c.args.quoted.now mid q s made));
    }
