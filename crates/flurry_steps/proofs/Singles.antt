-- A call that does not go over all bins.
use Rattle.std.specs.Prelude.{◌≡◌, ℕ, None}
use Rattle.std.proofs.Common.{refl}
use Rattle.flurry_steps_sweep.specs.Part.{ControlPart, LookPart, BinPart, MovePart, NoPart}
use Rattle.flurry_steps_sweep.specs.Sweep.{SweepKind, Reads, Wipes, SweepStage, AtSweepStart, OverBins, AtTotal, AtEnd, AfterEnd, part_at}
use Rattle.flurry_steps_sweep.specs.Outcome.{Outcome}
use Rattle.flurry_steps_sweep.specs.declared.reply.Reply.{Reply}
use Rattle.flurry_steps_stages.specs.Stage.{AtDone, last_seen}
use Rattle.flurry_steps_stages.specs.StageView.{stage_of}
use Rattle.flurry_steps_stages.specs.declared.stage.Stage.{Stage}
use Rattle.flurry_steps_stages.specs.declared.stage.Stage.TheVariants as stage

-- it has read nothing as a walk does
pub none_read : {Q K V F A : Type 0} (stands_for : Q → K) (s : Stage Q K V F A) → None ≡ last_seen (stage_of stands_for s)
none_read stands_for (stage.Locate t) = refl
none_read stands_for (stage.Bin t e) = refl
none_read stands_for (stage.Help h a) = refl
none_read stands_for (stage.Uncount r) = refl
none_read stands_for (stage.Count r) = refl
none_read stands_for (stage.Recount r) = refl
none_read stands_for (stage.Begin e r) = refl
none_read stands_for (stage.Grow w g) = refl
none_read stands_for (stage.Reserve a) = refl
none_read stands_for (stage.Done r) = refl
none_read stands_for stage.Taken = refl

-- and it alone moves bins
pub no_move : {K V : Type 0} (w : SweepKind) (s : SweepStage K V) (e i : ℕ) → part_at w s ≡ MovePart e i → ⊥
no_move w AtSweepStart e i same = let clash : ControlPart ≡ MovePart e i = same in cc
no_move Reads (OverBins c) e i same = let clash : LookPart c.top.table c.top.index ≡ MovePart e i = same in cc
no_move (Wipes n) (OverBins c) e i same = let clash : BinPart c.top.table c.top.index ≡ MovePart e i = same in cc
no_move w AtTotal e i same = let clash : ControlPart ≡ MovePart e i = same in cc
no_move w (AtEnd r) e i same = let clash : NoPart ≡ MovePart e i = same in cc
no_move w AfterEnd e i same = let clash : NoPart ≡ MovePart e i = same in cc

-- a stage that is seen as done is so
pub not_done : {Q K V F A : Type 0} (stands_for : Q → K) (s : Stage Q K V F A) → ((r : Reply K V A) → s ≡ stage.Done r → ⊥) → (o : Outcome K V) → stage_of stands_for s ≡ AtDone o → ⊥
not_done stands_for (stage.Locate t) other o e = cc
not_done stands_for (stage.Bin t n) other o e = cc
not_done stands_for (stage.Help h a) other o e = cc
not_done stands_for (stage.Uncount r) other o e = cc
not_done stands_for (stage.Count r) other o e = cc
not_done stands_for (stage.Recount r) other o e = cc
not_done stands_for (stage.Begin n r) other o e = cc
not_done stands_for (stage.Grow w g) other o e = cc
not_done stands_for (stage.Reserve a) other o e = cc
not_done stands_for (stage.Done r) other o e = other r refl
not_done stands_for stage.Taken other o e = cc
