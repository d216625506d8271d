-- Behind a monitor-exit.
use Rattle.std.proofs.Common.{◌≡◌, ℕ, Bool, true, false, List, ◌∷◌, Option, Some, None, refl, ap, sym, ◌∙◌, if◌then◌else◌}
use Rattle.dv_typing.specs.Flow.{is_exit}
use Rattle.dv_typing.specs.Statics.{At}
use Rattle.dv_words.specs.declared.state.Frame.{Frame}
use Rattle.dv_words.specs.declared.state.Level.{Level}
use Rattle.dv_words.specs.declared.state.Level.TheVariants as level
use Rattle.dv_words.specs.Stacks.{changed, on_top, with_levels}
use Rattle.dv_words.specs.State.{WordStack}
use Rattle.dv_frames.specs.Tops.{moved}
use Rattle.dv_words.specs.Step.{moved_on}
use Rattle.dv_core.specs.Settling.{behind_exit}

pub behind_yes : (x : At) (n : ℕ) (b : Bool) → b ≡ true → b ≡ is_exit x.op → n ≡ x.next → Some n ≡ behind_exit x
behind_yes x n b holds is same = ap Some same ∙ ap (λ (c : Bool). let r : Option ℕ = if c then Some x.next else None in r) (sym holds ∙ is)

pub behind_no : (x : At) (b : Bool) → b ≡ false → b ≡ is_exit x.op → (let r : Option ℕ = None in r) ≡ behind_exit x
behind_no x b fails is = ap (λ (c : Bool). let r : Option ℕ = if c then Some x.next else None in r) (sym fails ∙ is)

yes_by : (b : Bool) (n to : ℕ) (f : Frame) (ls : List Level) → Some to ≡ (let r : Option ℕ = if b then Some n else None in r)
    → level.Code (moved f to) ∷ ls ≡ (let r : List Level = if b then level.Code (record f { at = n }) ∷ ls else level.Code f ∷ ls in r)
yes_by true n to f ls is = let same : to ≡ n = cc in ap (λ k. level.Code (moved f k) ∷ ls) same
yes_by false n to f ls is = absurd (cc)

no_by : (b : Bool) (n : ℕ) (f : Frame) (ls : List Level) → (let r : Option ℕ = None in r) ≡ (let r : Option ℕ = if b then Some n else None in r)
    → level.Code f ∷ ls ≡ (let r : List Level = if b then level.Code (record f { at = n }) ∷ ls else level.Code f ∷ ls in r)
no_by true n f ls is = absurd (cc)
no_by false n f ls is = refl

pub moves : (s : WordStack) (f : Frame) (ls own : List Level) (x : At) (to : ℕ) (r : WordStack) → s.levels ≡ level.Code f ∷ ls → own ≡ level.Code f ∷ ls → Some to ≡ behind_exit x → r ≡ changed (λ g. moved g to) s
    → r ≡ with_levels s (moved_on (Some x) own)
moves s f ls own x to r levels owns is did =
    did ∙ ap (with_levels s) (ap (on_top (λ g. moved g to)) levels ∙ yes_by (is_exit x.op) x.next to f ls is ∙ ap (moved_on (Some x)) (sym owns))

pub stays : (s : WordStack) (f : Frame) (ls own : List Level) (x : At) → s.levels ≡ level.Code f ∷ ls → own ≡ level.Code f ∷ ls → (let r : Option ℕ = None in r) ≡ behind_exit x → s ≡ with_levels s (moved_on (Some x) own)
stays s f ls own x levels owns is =
    ap (with_levels s) (levels ∙ no_by (is_exit x.op) x.next f ls is ∙ ap (moved_on (Some x)) (sym owns))
