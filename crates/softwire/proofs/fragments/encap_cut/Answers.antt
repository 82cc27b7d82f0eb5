use Rattle.std.proofs.Common.{arith}
use Rattle.softwire.proofs.EncapTold.{told}
use Rattle.softwire.proofs.Joins.{joins_again}
use Rattle.softwire.proofs.fragments.encap_cut.Goals as goal

pub returns-then-inner-from-clause-joins : goal.returns-then-inner-from-clause-joins
returns-then-inner-from-clause-joins c = joins_again c.args.mtu 48 c.args.inner.now (omega (arith, c.requires.mtu))

pub returns-clause-joins : goal.returns-clause-joins
returns-clause-joins c = joins_again c.args.mtu 48 c.args.inner.now (omega (arith, c.requires.mtu))

pub returns-in_err-pieces-clause-joins : goal.returns-in_err-pieces-clause-joins
returns-in_err-pieces-clause-joins c = joins_again c.args.mtu 48 c.args.inner.now (omega (arith, c.requires.mtu))

pub returns-in_err-append-clause-joins : goal.returns-in_err-append-clause-joins
returns-in_err-append-clause-joins c = joins_again c.args.mtu 48 c.args.inner.now (omega (arith, c.requires.mtu))

pub returns-then-inner-from-clause-tells : goal.returns-then-inner-from-clause-tells
returns-then-inner-from-clause-tells c =
    told c.args.aftr c.args.softwire c.args.class c.args.mtu c.args.id c.args.inner.now c.fits.ensures (omega (arith, c.requires.mtu))
    (omega (arith, c.ranges.mtu.fits)) (omega (arith, c.ranges.id.fits)) c.requires.short

pub returns-clause-tells : goal.returns-clause-tells
returns-clause-tells c =
    told c.args.aftr c.args.softwire c.args.class c.args.mtu c.args.id c.args.inner.now c.fits.ensures (omega (arith, c.requires.mtu))
    (omega (arith, c.ranges.mtu.fits)) (omega (arith, c.ranges.id.fits)) c.requires.short

pub returns-in_err-pieces-clause-tells : goal.returns-in_err-pieces-clause-tells
returns-in_err-pieces-clause-tells c =
    told c.args.aftr c.args.softwire c.args.class c.args.mtu c.args.id c.args.inner.now c.fits.ensures (omega (arith, c.requires.mtu))
    (omega (arith, c.ranges.mtu.fits)) (omega (arith, c.ranges.id.fits)) c.requires.short

pub returns-in_err-append-clause-tells : goal.returns-in_err-append-clause-tells
returns-in_err-append-clause-tells c =
    told c.args.aftr c.args.softwire c.args.class c.args.mtu c.args.id c.args.inner.now c.fits.ensures (omega (arith, c.requires.mtu))
    (omega (arith, c.ranges.mtu.fits)) (omega (arith, c.ranges.id.fits)) c.requires.short
