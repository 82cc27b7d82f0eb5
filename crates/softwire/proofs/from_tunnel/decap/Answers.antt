use Rattle.std.proofs.Common.{rules, ◌≡◌, true, ap, ◌∙◌}
use Rattle.std.specs.Prelude.{◌==◌}
use Rattle.softwire.specs.Tunnel.{tunnel_of}
use Rattle.softwire.proofs.TunnelLaws.{answered}
use Rattle.softwire.proofs.from_tunnel.decap.Goals as goal

pub returns : goal.returns
returns c =
    let fields = c.fields-fields.result in
    let ours : (fields.dst.0 == c.args.aftr.0) ≡ true = search rules in
    c.carried.ensures ∙ ap (tunnel_of fields.src) c.walk.ensures.value
    ∙ answered c.args.aftr c.args.bytes.now c.in-Ok.packet fields c.payload.result.now c.in-Ok.ensures.value c.fields-fields.ensures
    c.payload.ensures ours
