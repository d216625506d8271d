-- What a step on objects read, the words have: one lemma for each kind of read.
use Rattle.std.proofs.Common.{◌≡◌, ℕ, suc, Bool, true, false, ◌||◌, Option, Some, None, Ok, Err, List, [], ◌∷◌, ℤ, refl, sym, ap, ◌∙◌, subst, arith}
use Rattle.std.specs.Prelude.{nat_eq}
use Rattle.dv_machine.specs.Kind.{Kind}
use Rattle.dv_machine.specs.Kind as kind_of_tagged
use Rattle.dv_defs.specs.declared.names.Ty.{Ty}
use Rattle.dv_machine.specs.Value.{Value}
use Rattle.dv_machine.specs.Value as v
use Rattle.dv_machine.specs.Heap as tagged
use Rattle.dv_machine.specs.Heap.{Heap}
use Rattle.dv_defs.specs.Numbers.{long_of}
use Rattle.dv_defs.specs.Op.{Arg, Reg, Lit}
use Rattle.dv_defs.specs.Types.{component, is_long, is_reference}
use Rattle.dv_machine.specs.Local.{read_arg}
use Rattle.dv_machine.specs.Mem as machine
use Rattle.dv_machine.specs.State.{Did, Here, Left, Reads, Two, is_array_kind, on_next, passes, read_hi, read_int, read_lo, read_tested, reading, reg_at, tested, where_ref}
use Rattle.dv_words.specs.declared.state.Frame.{Frame}
use Rattle.dv_words.specs.Standing.{AreWords, Fits, IsWord}
use Rattle.dv_words.specs.Words.{int_of}
use Rattle.law_words.specs.Laws.{DidStands}
use Rattle.dv_words.specs.Local.{arg_at, reg_word}
use Rattle.dv_words.specs.Mem.{WordLeft, narrowed_all}
use Rattle.law_words.proofs.Narrowing.{long_narrowed, number_narrowed, reference_narrowed, zero_narrowed}

-- what a store to a field or element takes: words, and what is kept of them
pub record Taken (t : Ty) (ws : List ℕ) (xs : List Value) : Type 0 where
  pub words : AreWords ws xs
  pub kept : AreWords (narrowed_all t ws) (machine.narrowed_all t xs)

module _ (h : Here) (d : Did WordLeft) where
  -- a stuck step asks nothing
  abbrev Stands : Did Left → Type 0
  Stands e = DidStands h d e

  pub reads_int : (y : Value) (w : ℕ) (go : ℤ → Did Left) → IsWord w y → Stands (go (int_of w)) → Stands (reading (read_int y) go)
  reads_int v.Zero w go is s = subst (λ (n : ℕ). Stands (go (int_of n))) is s
  reads_int (v.Num n) w go is s = subst (λ (z : ℤ). Stands (go z)) is s
  reads_int y w go is s = tt

  abbrev two_of : Value → Value → Reads Two
  two_of x y = on_next (read_lo x) (λ lo. on_next (read_hi y) (λ hi. Ok (record { lo = lo; hi = hi })))

  pub reads_two : (x y : Value) (w u : ℕ) (go : Two → Did Left) → IsWord w x → IsWord u y → Stands (go (record { lo = w; hi = u })) → Stands (reading (two_of x y) go)
  reads_two (v.Lo n) (v.Hi m) w u go is js s = subst (λ (a : ℕ). Stands (go (record { lo = a; hi = m }))) is (subst (λ (b : ℕ). Stands (go (record { lo = w; hi = b }))) js s)
  reads_two (v.Lo n) y w u go is js s = tt
  reads_two x y w u go is js s = tt

  pub reads_long : (x y : Value) (w u : ℕ) (go : ℤ → Did Left) → IsWord w x → IsWord u y → Stands (go (long_of w u)) → Stands (reading (on_next (two_of x y) (λ p. Ok (long_of p.lo p.hi))) go)
  reads_long (v.Lo n) (v.Hi m) w u go is js s = subst (λ (a : ℕ). Stands (go (long_of a m))) is (subst (λ (b : ℕ). Stands (go (long_of w b))) js s)
  reads_long (v.Lo n) y w u go is js s = tt
  reads_long x y w u go is js s = tt

  on_passed : (b : Bool) (o : ℕ) (go : ℕ → Did Left) → (b ≡ true → Stands (go o)) → Stands (reading (where_ref b o) go)
  on_passed true o go s = s refl
  on_passed false o go s = tt

  -- whatever is read
  pub reads_whatever : {A : Type 0} (read : Reads A) (go : A → Did Left) → ((x : A) → Stands (go x)) → Stands (reading read go)
  reads_whatever (Ok x) go s = s x
  reads_whatever (Err y) go s = tt

  -- null, or an object that the test takes
  pub reads_tested : (good : Kind → Bool) (heap : Heap) (y : Value) (w : ℕ) (go : ℕ → Did Left) → IsWord w y → (tested good heap w ≡ true → Stands (go w)) → Stands (reading (read_tested good heap y) go)
  reads_tested good heap v.Zero w go is s = subst (λ (n : ℕ). (tested good heap n ≡ true → Stands (go n))) is s refl
  reads_tested good heap (v.Ref o) w go is s = on_passed (tested good heap o) o go (subst (λ (n : ℕ). (tested good heap n ≡ true → Stands (go n))) is s)
  reads_tested good heap y w go is s = tt

  pub reads_arg : (regs : List Value) (s : Frame) (c : Arg) (go : ℤ → Did Left) → ((k : ℕ) → IsWord (reg_word s k) (reg_at regs k)) → Stands (go (arg_at s c)) → Stands (reading (read_arg regs c) go)
  reads_arg regs s (Reg r) go is t = reads_int (reg_at regs r) (reg_word s r) go (is r) t
  reads_arg regs s (Lit n) go is t = t

  abbrev Takes : Ty → List ℕ → (List Value → Did Left) → Type 0
  Takes t ws go = (xs : List Value) → Taken t ws xs → Stands (go xs)

  pub takes_int : (t : Ty) (x : Value) (w : ℕ) (go : List Value → Did Left) → Fits w → IsWord w x → Takes t (w ∷ []) go → Stands (reading (on_next (read_int x) (λ n. Ok (x ∷ []))) go)
  takes_int t v.Zero w go f is take = take (v.Zero ∷ []) (record { words = (is, tt); kept = (zero_narrowed t w is, tt) })
  takes_int t (v.Num n) w go f is take = take (v.Num n ∷ []) (record { words = (is, tt); kept = (number_narrowed t w n f is, tt) })
  takes_int t x w go f is take = tt

  pub takes_long : (t : Ty) (x y : Value) (w u : ℕ) (go : List Value → Did Left) → is_long t ≡ true → Fits w → Fits u → IsWord w x → IsWord u y → Takes t (w ∷ u ∷ []) go → Stands (reading (on_next (two_of x y) (λ p. Ok (v.Lo p.lo ∷ v.Hi p.hi ∷ []))) go)
  takes_long t (v.Lo n) (v.Hi m) w u go long f g is js take =
      take (v.Lo n ∷ v.Hi m ∷ []) (record { words = (is, (js, tt)); kept = (long_narrowed t w long f ∙ is, (long_narrowed t u long g ∙ js, tt)) })
  takes_long t (v.Lo n) y w u go long f g is js take = tt
  takes_long t x y w u go long f g is js take = tt

  -- a reference is stored as it is
  pub takes_reference : (t : Ty) (good : Kind → Bool) (heap : Heap) (x : Value) (w : ℕ) (go : List Value → Did Left) → is_reference t ≡ true → Fits w → IsWord w x → Takes t (w ∷ []) go → Stands (reading (on_next (read_tested good heap x) (λ o. Ok (x ∷ []))) go)
  takes_reference t good heap v.Zero w go ref f is take = take (v.Zero ∷ []) (record { words = (is, tt); kept = (zero_narrowed t w is, tt) })
  takes_reference t good heap (v.Ref o) w go ref f is take = by (tested good heap o)
    where
      by : (b : Bool) → Stands (reading (on_next (where_ref b o) (λ p. Ok (v.Ref o ∷ []))) go)
      by true = take (v.Ref o ∷ []) (record { words = (is, tt); kept = (reference_narrowed t w ref f ∙ is, tt) })
      by false = tt
  takes_reference t good heap x w go ref f is take = tt

is_no_null : (o : ℕ) → nat_eq (suc o) 0 ≡ false
is_no_null o = grind arith

-- an object that is there passed the test itself
pub passed : (good : Kind → Bool) (heap : Heap) (o : ℕ) → tested good heap (suc o) ≡ true → passes good (tagged.kind_of heap (suc o)) ≡ true
passed good heap o is = ap (λ (b : Bool). b || passes good (tagged.kind_of heap (suc o))) (sym (is_no_null o)) ∙ is

-- an object that is an array is no string
pub record IsArray (good : Ty → Bool) (heap : Heap) (o : ℕ) : Type 0 where
  pub ty : Ty
  pub kind : tagged.kind_of heap o ≡ Some (kind_of_tagged.Array ty)
  pub passes : good (component ty) ≡ true

pub array_there : (good : Ty → Bool) (heap : Heap) (o : ℕ) → tested (is_array_kind good) heap (suc o) ≡ true → IsArray good heap (suc o)
array_there good heap o is = by (tagged.kind_of heap (suc o)) refl (passed (is_array_kind good) heap o is)
  where
    by : (k : Option Kind) → tagged.kind_of heap (suc o) ≡ k → passes (is_array_kind good) k ≡ true → IsArray good heap (suc o)
    by None has e = absurd (cc)
    by (Some (kind_of_tagged.Array t)) has e = record { ty = t; kind = has; passes = e }
    by (Some (kind_of_tagged.Object c)) has e = absurd (cc)
    by (Some (kind_of_tagged.Str x)) has e = absurd (cc)
    by (Some (kind_of_tagged.ClassOf t)) has e = absurd (cc)
