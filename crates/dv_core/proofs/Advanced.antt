-- Many steps of a thread at once.
use Rattle.std.proofs.Common.{All, ◌≡◌, ◌∙◌, ◌≤◌, ℕ, zero, suc, Bool, true, false, List, [], ◌∷◌, length, map, Option, Some, None, refl, sym, ap, subst, arith}
use Rattle.std.specs.Prelude.{◌&&◌, if◌then◌else◌, slice_get, slice_set}
use Rattle.std.proofs.lemmas.List.{length-map}
use Rattle.std.proofs.lemmas.Option.{same_Some}
use Rattle.dv_defs.specs.declared.machine.End.{End}
use Rattle.dv_defs.specs.declared.machine.End.TheVariants as end
use Rattle.dv_defs.specs.declared.run.Limits.{Limits}
use Rattle.dv_defs.specs.Images.{Image}
use Rattle.dv_machine.specs.Replaying.{is_running}
use Rattle.dv_words.specs.declared.state.Frame.{Frame}
use Rattle.dv_words.specs.declared.state.Kept.{Kept}
use Rattle.dv_words.specs.declared.state.Kept.TheVariants as kept
use Rattle.dv_words.specs.declared.state.Level.{Level}
use Rattle.dv_words.specs.declared.state.Level.TheVariants as level
use Rattle.dv_words.specs.Stacks.{changed, first, on_top}
use Rattle.dv_words.specs.Standing.{IsSmall, KeptFits, ResultFits}
use Rattle.dv_words.specs.State.{WordStack, WordThread}
use Rattle.law_words.specs.StepLaws.{TopFits}
use Rattle.dv_words.specs.Stepping.{RanLocally}
use Rattle.dv_threads.specs.Kept.{bounds, zipped}
use Rattle.dv_frames.specs.Tops.{head_of}
use Rattle.dv_local.specs.Tops.{RanTop, TopBecame, RanAtLevel}
use Rattle.dv_core.specs.declared.guest.Guest.{Guest}
use Rattle.law_engine.specs.KeepLaws.{is_local_level_of, thread_is_local_of}
use Rattle.dv_core.specs.Advancing.{RanAt, running_frame, runs_in, top_frame, with_frame}
use Rattle.dv_core.specs.Guests.{IsOrdered}
use Rattle.dv_core.proofs.Seen.{HasLevels, all_first, all_more, all_rest, set_same, zip_has, zip_set}
use Rattle.dv_core.proofs.Waits.{OwnAt, zip_own}

-- ---- the bounds of stacks

pub set_bounds : (ss : List WordStack) (t : ℕ) (s r : WordStack) → slice_get ss t ≡ Some s → bounds r ≡ bounds s → map bounds (slice_set ss t r) ≡ map bounds ss
set_bounds [] t s r has e = refl
set_bounds (x ∷ ss) zero s r has e = ap (λ b. b ∷ map bounds ss) (e ∙ ap bounds (sym (same_Some x s has)))
set_bounds (x ∷ ss) (suc t) s r has e = ap (λ bs. bounds x ∷ bs) (set_bounds ss t s r has e)

all_bounds : (lim : ℕ × ℕ) (ss rs : List WordStack) → map bounds rs ≡ map bounds ss → All (λ (s : WordStack). bounds s ≡ lim) ss → All (λ (s : WordStack). bounds s ≡ lim) rs
all_bounds lim [] [] e all = all
all_bounds lim (s ∷ ss) [] e all = absurd (cc)
all_bounds lim [] (r ∷ rs) e all = absurd (cc)
all_bounds lim (s ∷ ss) (r ∷ rs) e all =
    let P : WordStack → Type 0 = λ (s : WordStack). bounds s ≡ lim in
    let top : bounds r ≡ bounds s = cc in
    let rest : map bounds rs ≡ map bounds ss = cc in
    all_more P r rs (top ∙ all_first P s ss all) (all_bounds lim ss rs rest (all_rest P s ss all))

-- stacks with the same bounds are as well ordered
pub still_ordered : (limits : Limits) (old new : Guest) → new.threads.ends.items ≡ old.threads.ends.items → new.threads.objects.items ≡ old.threads.objects.items
    → map bounds new.threads.stacks.items ≡ map bounds old.threads.stacks.items → IsOrdered limits old → IsOrdered limits new
still_ordered limits old new ends objects same ordered =
    let long : length new.threads.stacks.items ≡ length old.threads.stacks.items =
    sym (length-map new.threads.stacks.items bounds) ∙ (ap length same ∙ length-map old.threads.stacks.items bounds) in
    record {
      aligned = record {
        ends = ap (λ (es : List End). length es) ends ∙ (ordered.aligned.ends ∙ sym long);
        objects = ap (λ (os : List ℕ). length os) objects ∙ (ordered.aligned.objects ∙ sym long);
      };
      bounded = all_bounds (limits.levels, limits.words) old.threads.stacks.items new.threads.stacks.items same ordered.bounded;
    }

-- ---- steps of the frame on top

module _ (image : Image) (most done : ℕ) (s r : WordStack) where
  few_in : (l : Option Level) → RanAtLevel image most done l s r → done ≤ most
  few_in None x = omega (arith, x.0)
  few_in (Some (level.Code f)) x = x.becomes.few
  few_in (Some (level.Init c b)) x = omega (arith, x.0)

  pub ran_few : RanTop image most done s r → done ≤ most
  ran_few x = few_in (first s.levels) x

  bounds_in : (l : Option Level) → RanAtLevel image most done l s r → bounds r ≡ bounds s
  bounds_in None x = ap bounds x.1
  bounds_in (Some (level.Code f)) x = ap bounds x.only_top
  bounds_in (Some (level.Init c b)) x = ap bounds x.1

  pub ran_bounds : RanTop image most done s r → bounds r ≡ bounds s
  ran_bounds x = bounds_in (first s.levels) x

  none_in : (ls : List Level) → top_frame ls ≡ None → RanAtLevel image most done (first ls) s r → (done ≡ 0) × (r ≡ s)
  none_in [] none x = x
  none_in (level.Code f ∷ ls) none x = absurd (cc none)
  none_in (level.Init c b ∷ ls) none x = x

  pub ran_none : top_frame s.levels ≡ None → RanTop image most done s r → (done ≡ 0) × (r ≡ s)
  ran_none none x = none_in s.levels none x

-- ---- a thread and its stack

pub zip_end : (ss : List WordStack) (es : List End) (os : List ℕ) (t : ℕ) (own : WordThread) → slice_get (zipped ss es os) t ≡ Some own → slice_get es t ≡ Some own.end
zip_end [] es os t own is = absurd (cc)
zip_end (x ∷ ss) [] os t own is = absurd (cc)
zip_end (x ∷ ss) (e ∷ es) [] t own is = absurd (cc)
zip_end (x ∷ ss) (e ∷ es) (o ∷ os) zero own is = ap (λ (th : WordThread). Some th.end) (same_Some (record { levels = x.levels; end = e; object = o }) own is)
zip_end (x ∷ ss) (e ∷ es) (o ∷ os) (suc t) own is = zip_end ss es os t own is

-- its frame on top has done so many local instructions
pub record RanFrame (image : Image) (most done : ℕ) (old new : List WordThread) (t : ℕ) (own : WordThread) (f : Frame) (ls : List Level) : Type 0 where
  pub frame : Frame
  pub ran : RanLocally image most done f frame
  pub threads : new ≡ with_frame old t own frame ls

module _ (ss : List WordStack) (es : List End) (os : List ℕ) (t : ℕ) (own : WordThread) (there : slice_get (zipped ss es os) t ≡ Some own) where
  pub own_stack : HasLevels ss t own.levels
  own_stack = zip_has ss es os t own there

  -- there was no code on top
  pub ran_nothing : (image : Image) (most done : ℕ) (rs : List WordStack) → top_frame own.levels ≡ None → ((s : WordStack) → slice_get ss t ≡ Some s → RanAt image most done ss rs t s) → (done ≡ 0) × (rs ≡ ss)
  ran_nothing image most done rs none ran =
      let at = ran own_stack.stack own_stack.there in
      let stays = ran_none image most done own_stack.stack at.stack (ap top_frame own_stack.levels ∙ none) at.ran in
      (stays.0, at.set ∙ (ap (slice_set ss t) stays.1 ∙ set_same ss t own_stack.stack own_stack.there))

  module _ (f : Frame) (ls : List Level) (living : own.end ≡ end.Living) (levels : own.levels ≡ level.Code f ∷ ls) where
    pub wrote_frame : (u : Frame) (rs : List WordStack) (r : WordStack) → rs ≡ slice_set ss t r → r ≡ changed (λ f. u) own_stack.stack → zipped rs es os ≡ with_frame (zipped ss es os) t own u ls
    wrote_frame u rs r set is =
        let on : r.levels ≡ level.Code u ∷ ls = ap (λ (s : WordStack). s.levels) is ∙ ap (on_top (λ f. u)) (own_stack.levels ∙ levels) in
        (λ j. zipped (set j) es os) ∙
        (zip_set ss es os t own r there ∙ (λ j. slice_set (zipped ss es os) t (record { levels = on j; end = living j; object = own.object })))

    pub ran_frame : (image : Image) (most done : ℕ) (rs : List WordStack) → ((s : WordStack) → slice_get ss t ≡ Some s → RanAt image most done ss rs t s) → RanFrame image most done (zipped ss es os) (zipped rs es os) t own f ls
    ran_frame image most done rs ran =
        let at = ran own_stack.stack own_stack.there in
        let top : TopBecame (RanLocally image most done) f own_stack.stack at.stack =
        subst (λ (l : Option Level). RanAtLevel image most done l own_stack.stack at.stack) (ap first (own_stack.levels ∙ levels)) at.ran in
        record { frame = top.frame; ran = top.becomes; threads = wrote_frame top.frame rs at.stack at.set top.only_top }

-- a frame is put back where another one was
set_twice : {X : Type 0} (xs : List X) (t : ℕ) (x y : X) → slice_set (slice_set xs t y) t x ≡ slice_set xs t x
set_twice [] t x y = refl
set_twice (z ∷ xs) zero x y = refl
set_twice (z ∷ xs) (suc t) x y = ap (λ ys. z ∷ ys) (set_twice xs t x y)

set_there : {X : Type 0} (xs : List X) (t : ℕ) (x y : X) → slice_get xs t ≡ Some x → slice_get (slice_set xs t y) t ≡ Some y
set_there [] t x y has = absurd (cc)
set_there (z ∷ xs) zero x y has = refl
set_there (z ∷ xs) (suc t) x y has = set_there xs t x y has

module _ (ts : List WordThread) (t : ℕ) (own : WordThread) (u : Frame) (ls : List Level) (there : slice_get ts t ≡ Some own) where
  abbrev pub later : WordThread
  later = record { levels = level.Code u ∷ ls; end = end.Living; object = own.object }

  pub later_there : slice_get (with_frame ts t own u ls) t ≡ Some later
  later_there = set_there ts t own later there

  pub put_back : (f : Frame) → own.end ≡ end.Living → own.levels ≡ level.Code f ∷ ls → with_frame (with_frame ts t own u ls) t later f ls ≡ ts
  put_back f living levels =
      let again : WordThread = record { levels = level.Code f ∷ ls; end = end.Living; object = own.object } in
      let same : again ≡ own = λ j. record { levels = sym levels j; end = sym living j; object = own.object } in
      set_twice ts t again later ∙ (ap (slice_set ts t) same ∙ set_same ts t own there)

-- ---- a living thread

running_end : (o : Option End) → runs_in o ≡ true → Some end.Living ≡ o
running_end None is = absurd (cc is)
running_end (Some end.Living) is = refl
running_end (Some (end.Flying o)) is = absurd (cc is)
running_end (Some end.Returned) is = absurd (cc is)
running_end (Some (end.Died o)) is = absurd (cc is)

module _ (ss : List WordStack) (es : List End) (os : List ℕ) (t : ℕ) where
  pub running_own : length es ≡ length ss → length os ≡ length ss → runs_in (slice_get es t) ≡ true → OwnAt (zipped ss es os) t end.Living
  running_own es_long os_long is = zip_own ss es os t end.Living es_long os_long (running_end (slice_get es t) is)

  pub own_runs : (own : WordThread) → slice_get (zipped ss es os) t ≡ Some own → runs_in (slice_get es t) ≡ is_running own.end
  own_runs own there = ap runs_in (zip_end ss es os t own there)

  idle_frame : (q : Option WordThread) → slice_get (zipped ss es os) t ≡ q → runs_in (slice_get es t) ≡ false → running_frame q ≡ None
  idle_frame None there is = refl
  idle_frame (Some own) there is = ap (λ (b : Bool). if b then top_frame own.levels else None) (sym (own_runs own there) ∙ is)

  pub no_frame : runs_in (slice_get es t) ≡ false → running_frame (slice_get (zipped ss es os) t) ≡ None
  no_frame is = idle_frame (slice_get (zipped ss es os) t) refl is

  idle_local : (image : Image) (q : Option WordThread) → slice_get (zipped ss es os) t ≡ q → runs_in (slice_get es t) ≡ false → thread_is_local_of image q ≡ false
  idle_local image None there is = refl
  idle_local image (Some own) there is = ap (λ (b : Bool). b && is_local_level_of image own.levels) (sym (own_runs own there) ∙ is)

  pub not_local : (image : Image) → runs_in (slice_get es t) ≡ false → thread_is_local_of image (slice_get (zipped ss es os) t) ≡ false
  not_local image is = idle_local image (slice_get (zipped ss es os) t) refl is

  -- by its levels
  module _ (own : WordThread) (there : slice_get (zipped ss es os) t ≡ Some own) (living : own.end ≡ end.Living) where
    pub own_frame : running_frame (slice_get (zipped ss es os) t) ≡ top_frame own.levels
    own_frame = ap running_frame there ∙ ap (λ (e : End). if is_running e then top_frame own.levels else None) living

    pub own_local : (image : Image) → thread_is_local_of image (slice_get (zipped ss es os) t) ≡ is_local_level_of image own.levels
    own_local image = ap (thread_is_local_of image) there ∙ ap (λ (e : End). is_running e && is_local_level_of image own.levels) living

-- ---- what is on top

pub no_head_frame : (ls : List Level) → None ≡ head_of (first ls) → None ≡ top_frame ls
no_head_frame [] none = refl
no_head_frame (level.Code f ∷ ls) none = absurd (cc none)
no_head_frame (level.Init c r ∷ ls) none = refl

-- ---- words of 32 bits

result_fits : (k : Kept) → KeptFits k → ResultFits k
result_fits kept.None fits = tt
result_fits (kept.One w) fits = fits
result_fits (kept.Two low high) fits = tt

pub small_top : (ls : List Level) → ((f : Frame) (rest : List Level) → ls ≡ level.Code f ∷ rest → IsSmall f) → TopFits ls
small_top [] small = tt
small_top (level.Code f ∷ ls) small = let is = small f ls refl in (is.regs, result_fits f.result is.result)
small_top (level.Init c r ∷ ls) small = tt
