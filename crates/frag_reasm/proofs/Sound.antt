-- Datagrams in pieces that don't contradict each other stay such.
use Rattle.std.proofs.Common.{◌≡◌, Bool, true, false, cond, ℕ, zero, suc, set, List, [], ◌∷◌, ◌++◌, find, filter, Option, Some, subst}
use Rattle.aftr_base.proofs.Founds.{some_inj}
use Rattle.frag_reasm.specs.declared.pieces.PartialDatagram.{PartialDatagram}
use Rattle.frag_reasm.specs.Whole.{AreApart}
use Rattle.frag_reasm.specs.Offers.{IsSound}

filter_by : (d : PartialDatagram) (rest : List PartialDatagram) (b : Bool) → AreApart d.pieces → IsSound rest
    → IsSound (cond b (d ∷ rest) rest)
filter_by d rest true one all = (one, all)
filter_by d rest false one all = all

-- those that are left
pub sound_filter : (test : PartialDatagram → Bool) (ds : List PartialDatagram) → IsSound ds → IsSound (filter test ds)
sound_filter test [] sound = tt
sound_filter test (d ∷ ds) sound = filter_by d (filter test ds) (test d) sound.0 (sound_filter test ds sound.1)

found_by : (d y : PartialDatagram) (o : Option PartialDatagram) (b : Bool) → AreApart d.pieces → cond b (Some d) o ≡ Some y
    → (o ≡ Some y → AreApart y.pieces) → AreApart y.pieces
found_by d y o true one h next = subst (λ (e : PartialDatagram). AreApart e.pieces) (some_inj d y h) one
found_by d y o false one h next = next h

-- one that was found
pub sound_found : (test : PartialDatagram → Bool) (ds : List PartialDatagram) (y : PartialDatagram) → IsSound ds
    → find test ds ≡ Some y → AreApart y.pieces
sound_found test [] y sound h = cc
sound_found test (d ∷ ds) y sound h = found_by d y (find test ds) (test d) sound.0 h (sound_found test ds y sound.1)

-- one more behind them
pub sound_push : (ds : List PartialDatagram) (d : PartialDatagram) → IsSound ds → AreApart d.pieces → IsSound (ds ++ d ∷ [])
sound_push [] d sound one = (one, tt)
sound_push (e ∷ ds) d sound one = (sound.0, sound_push ds d sound.1 one)

-- and one in the place of another
pub sound_there : (ds : List PartialDatagram) (i : ℕ) (d : PartialDatagram) → IsSound ds → AreApart d.pieces → IsSound (set ds i d)
sound_there [] i d sound one = tt
sound_there (e ∷ ds) zero d sound one = (one, sound.1)
sound_there (e ∷ ds) (suc i) d sound one = (sound.0, sound_there ds i d sound.1 one)
