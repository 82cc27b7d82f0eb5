-- The one input of a run, among its inputs.
use Rattle.std.proofs.Common.{◌≡◌, ℕ, ◌<◌, List, [], ◌∷◌, length, get_or, refl, ap, ◌∙◌, arith}
use Rattle.std.specs.Prelude.{Option, Some, option_map}
use Rattle.std.proofs.Math.ListN.{set}
use Rattle.plant_io.specs.declared.source.Source as source
use Rattle.plant_io.specs.Uses.{source_use}
use Rattle.aftr_engine.specs.declared.words.Command.{Command}
use Rattle.aftr_engine.specs.declared.words.Command.TheVariants.{Run}
use Rattle.aftr_engine.specs.words.Words.{paths_with, paths_for, command_for, input_count}
use Rattle.aftr_engine.specs.engine.Running.{at_first, first_use}

pub first_is : {A B : Type 0} (d : B) (f : A → B) (xs : List A) (x : A) → 0 < length xs → at_first d f xs ≡ f (get_or xs 0 x)
first_is d f [] x some = absurd (omega arith)
first_is d f (y ∷ xs) x some = refl

pub first_used : {S : Type 0} (g : source.Ghosts S) (xs : List S) (x x' : S) → 0 < length xs
    → first_use g xs (set xs 0 x') ≡ source_use g (get_or xs 0 x) x'
first_used g [] x x' some = absurd (omega arith)
first_used g (y ∷ xs) x x' some = refl

-- a run's words name one input
pub some_input : (words : List (List ℕ)) (count : ℕ) → command_for words ≡ Some Run → count ≡ input_count (paths_for words) → 0 < count
some_input words count is same =
    let one : count ≡ 1 = same ∙ ap (λ (o : Option Command). input_count (option_map paths_with o)) is in omega (arith, one)
