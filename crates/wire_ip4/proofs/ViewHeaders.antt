-- The header that a view has is one that bytes can spell, where it has no options.
use Rattle.std.proofs.Common.{◌≡◌, ◌<◌, [], refl, subst, sym, arith}
use Rattle.aftr_base.specs.Bytes.{IsBytes}
use Rattle.wire_ip4.specs.Grammar.{AreFields, Header, IsHeader}
use Rattle.wire_ip4.proofs.Pieces.{nothing_fits}

pub plain_header : (h : Header) → AreFields h.fields → h.sum < 65536 → h.options ≡ [] → IsHeader h
plain_header h fields sum plain = record {
  fields = fields;
  sum = sum;
  options = subst IsBytes (sym plain) nothing_fits;
  words = rw plain refl;
  most = rw plain (omega arith);
}
