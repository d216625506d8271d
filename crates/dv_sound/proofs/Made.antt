-- Slices as workers make them: what `commit` asks of a slice holds of the first one, and more local steps keep it.
use Rattle.std.proofs.Common.{◌≡◌, ◌+◌, ◌-◌, ℕ, suc, Option, Some, sym, ap, subst, ◌∙◌, arith}
use Rattle.std.proofs.lemmas.Option.{same_Some}
use Rattle.dv_defs.specs.Images.{Image}
use Rattle.dv_defs.specs.Op.{is_local}
use Rattle.dv_typing.specs.Statics.{At, fetch}
use Rattle.dv_words.specs.declared.state.Frame.{Frame}
use Rattle.dv_words.specs.Stepping.{RanLocally, local_here, locals_here, on_frame}
use Rattle.law_words.proofs.Slices.{local_was}
use Rattle.dv_local.specs.declared.slice.Slice.{Slice}
use Rattle.dv_local.proofs.Slices.{between, ran_on}
use Rattle.dv_sound.specs.Lending.{IsFirst, IsLocalRun}

pub made_first : (image : Image) (t : ℕ) (s : Slice) → IsFirst t s → IsLocalRun image s
made_first image t s first = record {
  few = omega arith;
  local = λ k u x l keys e found. absurd (let none = first.none in omega (arith, l, none));
  reached = λ keys u e. first.ends ∙ same_Some s.start u (sym (ap (λ n. locals_here image n s.start) first.none) ∙ e);
  whole = λ l x found. absurd (omega (arith, l));
}

-- a slice with more local steps
pub made_on : (image : Image) (most done : ℕ) (old new : Slice) → IsLocalRun image old → RanLocally image most done old.end new.end → new.steps ≡ old.steps + done → new.start ≡ old.start → IsLocalRun image new
made_on image most done old new made ran steps start =
    let whole = ran_on image old.steps most done old.start old.end new.end made ran in
    subst (λ n. RanLocally image n n new.start new.end) (sym steps) (subst (λ (f : Frame). RanLocally image (old.steps + done) (old.steps + done) f new.end) (sym start) whole)

-- a slice whose local steps are known to lead to its last frame
pub made_by : (image : Image) (s : Slice) → locals_here image s.steps s.start ≡ Some s.end → IsLocalRun image s
made_by image s led = record {
  few = omega arith;
  local = λ k u x l keys e found.
      let split : suc k + (s.steps - suc k) ≡ s.steps = omega (arith, l) in
      let b = between image (suc k) (s.steps - suc k) s.start s.end (ap (λ n. locals_here image n s.start) split ∙ led) in
      let was = local_was (fetch image u.method.0 u.at) u b.mid (sym (ap (λ (o : Option Frame). on_frame o (local_here image)) e) ∙ b.first) in
      ap (λ (y : At). is_local y.op) (same_Some x was.0 (sym found ∙ was.1)) ∙ was.2;
  reached = λ keys u e. same_Some s.end u (sym led ∙ e);
  whole = λ l x found. absurd (omega (arith, l));
}
