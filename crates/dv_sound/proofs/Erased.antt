-- The words of an engine are the erasure of the state for which they stand.
use Rattle.std.proofs.Common.{◌≡◌, ◌<◌, ◌≤◌, ◌-◌, ◌^◌, ◌⊎◌, ◌++◌, ℕ, suc, Some, List, [], ◌∷◌, All, length, reverse, take, drop, inl, inr, refl, sym, ap, ◌∙◌, subst, arith}
use Rattle.std.specs.Int.{w32}
use Rattle.std.specs.List.{AllZip}
use Rattle.std.specs.Prelude.{slice_get, slice_index_or}
use Rattle.std.proofs.lemmas.Bool.{cases_lt}
use Rattle.std.proofs.lemmas.Int.{to_z_pos}
use Rattle.std.proofs.lemmas.List.{reverse-append}
use Rattle.std.proofs.lemmas.List.Elements.{All-cons, All-drop, All-head, All-nil, All-push, All-same, All-tail, All-take}
use Rattle.std.proofs.Math.Facts.{to_z-neg}
use Rattle.dv_defs.specs.declared.machine.End.{End}
use Rattle.dv_machine.specs.Kind as tagged_kind
use Rattle.dv_machine.specs.Level as tagged_level
use Rattle.dv_machine.specs.Pending.{Pending}
use Rattle.dv_machine.specs.Pending as pending
use Rattle.dv_machine.specs.Value.{Value}
use Rattle.dv_machine.specs.Value as v
use Rattle.dv_defs.specs.Images.{Image}
use Rattle.dv_machine.specs.State.{Machine, Thread}
use Rattle.dv_machine.specs.WellTyped.{Typings, WellTyped}
use Rattle.dv_words.specs.declared.state.Kept.{Kept}
use Rattle.dv_words.specs.declared.state.Kept.TheVariants as kept
use Rattle.dv_words.specs.declared.state.Level as word_level
use Rattle.dv_words.specs.declared.state.Level.TheVariants as words
use Rattle.dv_words.specs.Erasure.{erased_machine}
use Rattle.dv_words.specs.Standing.{AllFit, AreWhole, AreWords, Fits, FitsInt, IsResult, IsWhole, IsWholeLevel, IsWholeMachine, IsWholeResult, IsWholeThread, IsWord, LevelFits, LevelStands, MachineFits, MachineStands, ObjectStands, ObjectsStand, ResultFits, ThreadFits, ThreadStands}
use Rattle.dv_words.specs.State.{WordMachine, WordStack, WordThread}
use Rattle.dv_words.specs.Words.{int_of}
use Rattle.law_words.proofs.Machines.{machines_are_erased}
use Rattle.law_engine.specs.Laws.{IsSimulated}
use Rattle.dv_frames.specs.declared.levels.Level.{Level}
use Rattle.dv_frames.specs.declared.levels.Level.TheVariants as level
use Rattle.dv_frames.specs.Arena.{cut}
use Rattle.dv_frames.specs.Heads.{frame}
use Rattle.dv_threads.specs.Kept.{zipped}
use Rattle.dv_sound.specs.Words.{HeadFits, StackFits}

-- ---- the words of stacks have 32 bits

pub cut_fits : (ls : List Level) (ws : List ℕ) → AllFit ws → All HeadFits ls → All LevelFits (cut ls ws)
cut_fits [] ws fit heads = All-nil LevelFits
cut_fits (level.Code h b ∷ ls) ws fit heads =
    All-cons LevelFits (words.Code (frame h (drop b ws))) (cut ls (take b ws)) (All-drop Fits b ws fit, All-head HeadFits (level.Code h b) ls heads)
    (cut_fits ls (take b ws) (All-take Fits b ws fit) (All-tail HeadFits (level.Code h b) ls heads))
cut_fits (level.Init c r ∷ ls) ws fit heads = All-cons LevelFits (words.Init c r) (cut ls ws) tt (cut_fits ls ws fit (All-tail HeadFits (level.Init c r) ls heads))

pub from_behind : (ls : List Level) → All HeadFits ls → All HeadFits (reverse ls)
from_behind [] heads = All-nil HeadFits
from_behind (l ∷ ls) heads =
    All-same HeadFits (reverse (l ∷ ls)) (reverse ls ++ l ∷ []) (reverse-append (l ∷ []) ls)
    (All-push HeadFits (reverse ls) l (from_behind ls (All-tail HeadFits l ls heads)) (All-head HeadFits l ls heads))

pub zipped_fit : (ss : List WordStack) (es : List End) (os : List ℕ) → All StackFits ss → All ThreadFits (zipped ss es os)
zipped_fit [] es os fit = All-nil ThreadFits
zipped_fit (s ∷ ss) [] os fit = All-nil ThreadFits
zipped_fit (s ∷ ss) (e ∷ es) [] fit = All-nil ThreadFits
zipped_fit (s ∷ ss) (e ∷ es) (o ∷ os) fit =
    All-cons ThreadFits (record { levels = s.levels; end = e; object = o }) (zipped ss es os) (All-head StackFits s ss fit) (zipped_fit ss es os (All-tail StackFits s ss fit))

-- ---- a state for which words of 32 bits stand has ints of 32 bits

zip_all : {A B : Type 0} (P : A → Type 0) (R : A → B → Type 0) (Q : B → Type 0) → ((a : A) (b : B) → P a → R a b → Q b) → (xs : List A) (ys : List B) → All P xs → AllZip R xs ys → All Q ys
zip_all P R Q one xs [] all zip = All-nil Q
zip_all P R Q one [] (y ∷ ys) all zip = absurd zip
zip_all P R Q one (x ∷ xs) (y ∷ ys) all zip = All-cons Q y ys (one x y (All-head P x xs all) zip.0) (zip_all P R Q one xs ys (All-tail P x xs all) zip.1)

-- a word read as a signed number
int_fits : (w : ℕ) → Fits w → FitsInt (int_of w)
int_fits w l = by (cases_lt w (2 ^ 31))
  where
    by : (w < 2 ^ 31) ⊎ (2 ^ 31 ≤ w) → FitsInt (int_of w)
    by (inl below) = subst FitsInt (sym (to_z_pos w32 w below)) below
    by (inr above) =
        let k : ℕ = 2 ^ 32 - suc w in
        let back : 2 ^ 32 - suc k ≡ w = omega (arith, l) in
        let small : k < 2 ^ 31 = omega (arith, l, above) in
        subst FitsInt (sym (to_z-neg w32 k small) ∙ ap int_of back) small

value_whole : (w : ℕ) (x : Value) → Fits w → IsWord w x → IsWhole x
value_whole w (v.Num n) fits is = subst FitsInt is (int_fits w fits)
value_whole w x fits is = tt

values_whole : (ws : List ℕ) (xs : List Value) → AllFit ws → AreWords ws xs → AreWhole xs
values_whole = zip_all Fits IsWord IsWhole value_whole

result_whole : (k : Kept) (p : Pending) → ResultFits k → IsResult k p → IsWholeResult p
result_whole (kept.One w) (pending.One x) fits is = value_whole w x fits is
result_whole kept.None (pending.One x) fits is = absurd is
result_whole (kept.Two low high) (pending.One x) fits is = absurd is
result_whole k pending.None fits is = tt
result_whole k (pending.Two lo hi) fits is = tt

level_whole : (s : word_level.Level) (l : tagged_level.Level) → LevelFits s → LevelStands s l → IsWholeLevel l
level_whole (words.Code s) (tagged_level.Code f) fits stands = (values_whole s.regs f.regs fits.0 stands.regs, result_whole s.result f.result fits.1 stands.result)
level_whole (words.Init c r) (tagged_level.Code f) fits stands = absurd stands
level_whole s (tagged_level.Init d q) fits stands = tt

thread_whole : (s : WordThread) (t : Thread) → ThreadFits s → ThreadStands s t → IsWholeThread t
thread_whole s t fits stands = zip_all LevelFits LevelStands IsWholeLevel level_whole s.levels t.levels fits stands.levels

no_cells : (xs : List Value) → length xs ≡ 0 → AreWhole xs
no_cells xs none i d l = absurd (omega (arith, l, none))

object_whole : (ws : List ℕ) (k : tagged_kind.Kind) (xs : List Value) → AllFit ws → ObjectStands ws k xs → ((s : List ℕ) → k ≡ tagged_kind.Str s → length xs ≡ 0) → AreWhole xs
object_whole ws (tagged_kind.Str s) xs fits stands none = no_cells xs (none s refl)
object_whole ws (tagged_kind.Object c) xs fits stands none = values_whole ws xs fits stands
object_whole ws (tagged_kind.Array t) xs fits stands none = values_whole ws xs fits stands
object_whole ws (tagged_kind.ClassOf t) xs fits stands none = values_whole ws xs fits stands

-- strings have no cells
abbrev HaveNone : List tagged_kind.Kind → List (List Value) → Type 0
HaveNone ks xss = (o : ℕ) (s : List ℕ) → slice_get ks o ≡ Some (tagged_kind.Str s) → length (slice_index_or xss o []) ≡ 0

objects_whole : (wss : List (List ℕ)) (ks : List tagged_kind.Kind) (xss : List (List Value)) → All AllFit wss → ObjectsStand wss ks xss → HaveNone ks xss → All AreWhole xss
objects_whole wss ks [] fits stand none = All-nil AreWhole
objects_whole [] [] (xs ∷ xss) fits stand none = absurd stand
objects_whole [] (k ∷ ks) (xs ∷ xss) fits stand none = absurd stand
objects_whole (ws ∷ wss) [] (xs ∷ xss) fits stand none = absurd stand
objects_whole (ws ∷ wss) (k ∷ ks) (xs ∷ xss) fits stand none =
    All-cons AreWhole xs xss (object_whole ws k xs (All-head AllFit ws wss fits) stand.0 (λ s is. none 0 s (ap (λ (x : tagged_kind.Kind). Some x) is)))
    (objects_whole wss ks xss (All-tail AllFit ws wss fits) stand.1 (λ o s is. none (suc o) s is))

machine_whole : (image : Image) (T : Typings) (w : WordMachine) (m : Machine) → WellTyped image T m → MachineFits w → MachineStands w m → IsWholeMachine m
machine_whole image T w m typed fits stands =
    let heap = stands.shared.heap in
    let h = m.shared.heap in (
      zip_all ThreadFits ThreadStands IsWholeThread thread_whole w.threads m.threads fits.0 stands.threads,
      (
        objects_whole w.shared.heap.cells h.kinds h.cells fits.1.0 heap.cells (λ o s is. (typed.heap.objects o (tagged_kind.Str s) is).count),
        zip_all AllFit AreWords AreWhole values_whole w.shared.heap.statics h.statics fits.1.1 heap.statics,
      ),
    )

-- ---- the erasure

pub erased : (image : Image) (T : Typings) (w : WordMachine) (m : Machine) → IsSimulated image T w m → MachineFits w → w ≡ erased_machine m
erased image T w m simulated fits =
    (machines_are_erased w m simulated.typed.heap.count fits (machine_whole image T w m simulated.typed fits simulated.stands)).0 simulated.stands
