use Rattle.std.proofs.Common.{List, ℕ, sym, subst}
use Rattle.std.proofs.lemmas.Result.{IfOk-weaker}
use Rattle.plant_io.specs.Story.{IsImage}
use Rattle.plant_io.proofs.Images.{content_is_image, durable_is_image}
use Rattle.plant_mem.specs.Plants.{stop_story}
use Rattle.plant_mem.proofs.LeftFiles.{filled_is_image}
use Rattle.plant_mem.proofs.stop_plant.StopPlant.left.Goals as goal

pub returns-in-Kept-clause-image : goal.returns-in-Kept-clause-image
returns-in-Kept-clause-image c =
    IfOk-weaker c.copy.result _ _
    (λ file is. subst (λ (l : List ℕ). IsImage (stop_story c.args.self.now) l) (sym is) (content_is_image (stop_story c.args.self.now)))
    c.copy.ensures

pub returns-in-Dropped-clause-image : goal.returns-in-Dropped-clause-image
returns-in-Dropped-clause-image c =
    IfOk-weaker c.at_last_sync.result _ _
    (λ file is. subst (λ (l : List ℕ). IsImage (stop_story c.args.self.now) l) (sym is) (durable_is_image (stop_story c.args.self.now)))
    c.at_last_sync.ensures

pub returns-in-Zeros-clause-image : goal.returns-in-Zeros-clause-image
returns-in-Zeros-clause-image c =
    IfOk-weaker c.filled.result _ _ (λ image is. filled_is_image 0 _ image is) c.filled.ensures

pub returns-in-Ones-clause-image : goal.returns-in-Ones-clause-image
returns-in-Ones-clause-image c =
    IfOk-weaker c.filled-in-Ones.result _ _ (λ image is. filled_is_image 255 _ image is) c.filled-in-Ones.ensures
