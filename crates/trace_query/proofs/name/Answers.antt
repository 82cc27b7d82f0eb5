use Rattle.std.proofs.Common.{◌≡◌, Bool, true, false, cond, List, [], ◌∷◌, Option, Some, None, refl, sym, ap, ◌∙◌}
use Rattle.std.specs.Prelude.{filter, find, map}
use Rattle.std.proofs.lemmas.Bool.{le-ltb}
use Rattle.aftr_base.specs.declared.row.LeaseRow.{LeaseRow}
use Rattle.aftr_base.specs.declared.value.Subscriber.{Subscriber}
use Rattle.trace_query.specs.declared.Named.{Named}
use Rattle.trace_query.specs.declared.Named.TheVariants.{Subscriber as NamedSubscriber, Unheld}
use Rattle.trace_query.specs.Names.{first_name, holds}
use Rattle.trace_query.proofs.name.Goals as goal

-- the name that the first lease gives, if there is one
name_by : Option LeaseRow → Named
name_by None = Unheld
name_by (Some l) = NamedSubscriber l.owner

owner_of : LeaseRow → Subscriber
owner_of l = l.owner

first_or_next : (b : Bool) (x : LeaseRow) (ys : List LeaseRow) (o : Option LeaseRow) → first_name (map owner_of ys) ≡ name_by o
    → first_name (map owner_of (cond b (x ∷ ys) ys)) ≡ name_by (cond b (Some x) o)
unfolding owner_of name_by
first_or_next true x ys o e = refl
first_or_next false x ys o e = e

first_that_holds : (p : LeaseRow → Bool) (xs : List LeaseRow) → first_name (map owner_of (filter p xs)) ≡ name_by (find p xs)
unfolding owner_of name_by
first_that_holds p [] = refl
first_that_holds p (x ∷ xs) = first_or_next (p x) x (filter p xs) (find p xs) (first_that_holds p xs)

-- up to the horizon it is the first name
within : (horizon at : Bool) (beyond named : Named) → horizon ≡ false → cond horizon beyond named ≡ named
within h at beyond named is = ap (λ (b : Bool). cond b beyond named) is

pub returns-in-Some : goal.returns-in-Some
unfolding owner_of name_by
returns-in-Some c =
    let t = c.args.told.now in
    let test = holds t.horizon.0 c.args.addr c.args.port c.args.at.0 in
    sym (within _ false _ _ (le-ltb t.horizon.0 c.args.at.0 c.if-told-at.false)
    ∙ first_that_holds test t.leases ∙ ap name_by (sym c.in-Some.ensures))

pub returns-in-None : goal.returns-in-None
unfolding owner_of name_by
returns-in-None c =
    let t = c.args.told.now in
    let test = holds t.horizon.0 c.args.addr c.args.port c.args.at.0 in
    sym (within _ false _ _ (le-ltb t.horizon.0 c.args.at.0 c.if-told-at.false)
    ∙ first_that_holds test t.leases ∙ ap name_by (sym c.in-None.ensures))
