-- What a step read of the tagged machine, when it wasn't stuck.
use Rattle.std.proofs.Common.{◌≡◌, ℕ, suc, ◌++◌, Bool, true, false, Ok, Err, List, [], ◌∷◌, length, map, refl, sym, ap, ◌∙◌, subst, arith}
use Rattle.std.specs.Prelude.{if◌then◌else◌, nat_eq}
use Rattle.dv_machine.specs.Kind.{Kind}
use Rattle.dv_defs.specs.declared.names.Ty.{Ty}
use Rattle.dv_machine.specs.Why as why
use Rattle.dv_machine.specs.Value.{Value}
use Rattle.dv_machine.specs.Value as v
use Rattle.dv_machine.specs.Heap.{Heap, kind_of}
use Rattle.dv_defs.specs.Images.{Image}
use Rattle.dv_defs.specs.Types.{is_long, is_reference, words_of, words_of_all}
use Rattle.dv_machine.specs.Calls.{pending_words}
use Rattle.dv_machine.specs.Natives.{object_number}
use Rattle.dv_machine.specs.State.{Did, Left, Reads, Two, are_neighbours, fits_kind, kept_int, on_next, passes, read_args, read_hi, read_lo, read_ref, read_single, read_two, read_value, reading, reg_at, tested, where_ref}
use Rattle.dv_words.specs.declared.state.Frame.{Frame}
use Rattle.dv_words.specs.declared.state.Kept.TheVariants as kept
use Rattle.dv_words.specs.Standing.{AreWords, IsResult, IsWord}
use Rattle.dv_words.specs.Calls.{kept_at}
use Rattle.dv_words.specs.Local.{reg_word}
use Rattle.dv_words.specs.Mem.{words_in}
use Rattle.law_words.specs.StepLaws.{IsNumber, OutcomeStands}
use Rattle.dv_words.specs.Steps as steps
use Rattle.law_words.proofs.MemReading.{passed}
use Rattle.law_words.proofs.NativeSteps.{IsHalf, IsReference}

-- what holds of what is read, where it is
abbrev pub WhereRead : {A : Type 0} → Reads A → (A → Type 0) → Type 0
WhereRead (Ok x) P = P x
WhereRead (Err y) P = Unit {0}

pub where_next : {A B : Type 0} (P : A → Type 0) (Q : B → Type 0) (read : Reads A) (f : A → Reads B) → WhereRead read P → ((x : A) → P x → WhereRead (f x) Q) → WhereRead (on_next read f) Q
where_next P Q (Ok x) f p next = next x p
where_next P Q (Err y) f p next = tt

pub then_stands : {A : Type 0} (P : A → Type 0) (d : Did steps.Left) (read : Reads A) (go : A → Did Left) → WhereRead read P → ((x : A) → P x → OutcomeStands d (go x)) → OutcomeStands d (reading read go)
then_stands P d (Ok x) go p next = next x p
then_stands P d (Err y) go p next = tt

-- ---- one value

-- a reference, and an object that fits the type where it isn't null
pub record RefFits (image : Image) (heap : Heap) (t : Ty) (x : Value) : Type 0 where
  pub reference : IsReference x
  pub fitting : (o : ℕ) → object_number x ≡ suc o → passes (fits_kind image t) (kind_of heap (suc o)) ≡ true

-- by whether it is a reference
abbrev pub IsSingle : Image → Heap → Ty → Bool → Value → Type 0
IsSingle image heap t true x = RefFits image heap t x
IsSingle image heap t false x = IsNumber x

ref_passed : (b : Bool) (good : Kind → Bool) (heap : Heap) (o : ℕ) → tested good heap o ≡ b → WhereRead (where_ref b o) (λ p. (p ≡ o) × (tested good heap o ≡ true))
ref_passed true good heap o is = (refl, is)
ref_passed false good heap o is = tt

pub ref_read : (image : Image) (heap : Heap) (t : Ty) (x : Value) → WhereRead (read_ref image heap t x) (λ o. (o ≡ object_number x) × RefFits image heap t x)
ref_read image heap t v.Zero = (refl, record { reference = tt; fitting = λ o e. absurd (let none : 0 ≡ suc o = e in omega (arith, none)) })
ref_read image heap t (v.Ref o) = by (tested (fits_kind image t) heap o) refl
  where
    by : (b : Bool) → tested (fits_kind image t) heap o ≡ b → WhereRead (where_ref b o) (λ p. (p ≡ o) × RefFits image heap t (v.Ref o))
    by true is = (refl, record { reference = tt; fitting = λ q e. let there : tested (fits_kind image t) heap (suc q) ≡ true = subst (λ (n : ℕ). tested (fits_kind image t) heap n ≡ true) e is in passed (fits_kind image t) heap q there })
    by false is = tt
ref_read image heap t x = tt

single_read : (image : Image) (heap : Heap) (t : Ty) (b : Bool) (x : Value) → WhereRead (if b then on_next (read_ref image heap t x) (λ o. Ok x) else kept_int x) (λ y. (y ≡ x) × IsSingle image heap t b x)
single_read image heap t true x = where_next (λ o. (o ≡ object_number x) × RefFits image heap t x) (λ y. (y ≡ x) × RefFits image heap t x) (read_ref image heap t x) (λ o. Ok x) (ref_read image heap t x) (λ o p. (refl, p.1))
single_read image heap t false v.Zero = (refl, tt)
single_read image heap t false (v.Num n) = (refl, tt)
single_read image heap t false x = tt

-- the words of one value, by whether it is a long
pub data ValueOf (image : Image) (heap : Heap) (t : Ty) : Bool → List Value → Type 0 where
  Wide : (lo hi : ℕ) → ValueOf image heap t true (v.Lo lo ∷ v.Hi hi ∷ [])
  Single : (x : Value) → IsSingle image heap t (is_reference t) x → ValueOf image heap t false (x ∷ [])

-- one argument, by whether it is a long or a reference, and the others
abbrev pub OfOne : Image → Heap → Ty → Bool → Bool → List Value → (List Value → Type 0) → Type 0
OfOne image heap t true r (x ∷ y ∷ xs) rest = IsHalf x × IsHalf y × rest xs
OfOne image heap t false true (x ∷ xs) rest = RefFits image heap t x × rest xs
OfOne image heap t false false (x ∷ xs) rest = IsNumber x × rest xs
OfOne image heap t b r xs rest = ⊥

-- the arguments of these parameters
abbrev pub AreOf : Image → Heap → List Ty → List Value → Type 0
AreOf image heap [] xs = xs ≡ []
AreOf image heap (p ∷ ps) xs = OfOne image heap p (is_long p) (is_reference p) xs (AreOf image heap ps)

module _ (s : Frame) (regs : List Value) (is_at : (k : ℕ) → IsWord (reg_word s k) (reg_at regs k)) where
  pub two_read : (k : ℕ) → WhereRead (read_two regs k) (λ p. (reg_word s k ≡ p.lo) × (reg_word s (suc k) ≡ p.hi))
  two_read k = by (reg_at regs k) (reg_at regs (suc k)) (is_at k) (is_at (suc k))
    where
      by : (x y : Value) → IsWord (reg_word s k) x → IsWord (reg_word s (suc k)) y → WhereRead (on_next (read_lo x) (λ lo. on_next (read_hi y) (λ hi. Ok (record { lo = lo; hi = hi })))) (λ (p : Two). (reg_word s k ≡ p.lo) × (reg_word s (suc k) ≡ p.hi))
      by (v.Lo n) (v.Hi m) is js = (is, js)
      by (v.Lo n) y is js = tt
      by x y is js = tt

  -- the words that a value is read from, and its form
  pub record Taken (image : Image) (heap : Heap) (t : Ty) (k : ℕ) (xs : List Value) : Type 0 where
    pub words : AreWords (words_in s k (is_long t)) xs
    pub form : ValueOf image heap t (is_long t) xs

  value_by : (image : Image) (heap : Heap) (t : Ty) (k : ℕ) (b : Bool) → WhereRead (if b then on_next (read_two regs k) (λ p. Ok (v.Lo p.lo ∷ v.Hi p.hi ∷ [])) else on_next (read_single image heap t (reg_at regs k)) (λ x. Ok (x ∷ []))) (λ xs. AreWords (words_in s k b) xs × ValueOf image heap t b xs)
  value_by image heap t k true = where_next _ (λ xs. AreWords (words_in s k true) xs × ValueOf image heap t true xs) (read_two regs k) (λ p. Ok (v.Lo p.lo ∷ v.Hi p.hi ∷ [])) (two_read k) (λ p is. ((is.0, (is.1, tt)), Wide p.lo p.hi))
  value_by image heap t k false =
      where_next (λ y. (y ≡ reg_at regs k) × IsSingle image heap t (is_reference t) (reg_at regs k)) (λ xs. AreWords (words_in s k false) xs × ValueOf image heap t false xs) (read_single image heap t (reg_at regs k)) (λ x. Ok (x ∷ []))
      (single_read image heap t (is_reference t) (reg_at regs k))
      (λ y is. subst (λ x. AreWords (words_in s k false) (x ∷ []) × ValueOf image heap t false (x ∷ [])) (sym is.0) ((is_at k, tt), Single (reg_at regs k) is.1))

  pub value_read : (image : Image) (heap : Heap) (t : Ty) (k : ℕ) → WhereRead (read_value image heap regs k t) (λ xs. AreWords (words_in s k (is_long t)) xs × ValueOf image heap t (is_long t) xs)
  value_read image heap t k = value_by image heap t k (is_long t)

  -- ---- arguments

  words_over : (b : Bool) (p : Ty) (ps : List Ty) → is_long p ≡ b → words_of p ≡ (elim b [ true ↦ 2 | false ↦ 1 ])
  words_over b p ps is = ap (λ (c : Bool). elim c [ true ↦ 2 | false ↦ 1 ]) is

  neighbours_read : (k j : ℕ) → WhereRead (are_neighbours k j) (λ b. j ≡ suc k)
  neighbours_read k j = by (nat_eq j (suc k)) refl
    where
      by : (b : Bool) → nat_eq j (suc k) ≡ b → WhereRead (if b then Ok true else Err why.Pair) (λ c. j ≡ suc k)
      by true is = grind (arith, is)
      by false is = tt

  abbrev pub Arguments : Image → Heap → List Ty → List ℕ → List Value → Type 0
  Arguments image heap ps ks xs = AreWords (map (reg_word s) ks) xs × AreOf image heap ps xs

  single_args : (image : Image) (heap : Heap) (p : Ty) (ps : List Ty) (k : ℕ) (ks : List ℕ) → is_long p ≡ false → WhereRead (read_args image heap regs ps ks) (Arguments image heap ps ks) →
      WhereRead (on_next (read_value image heap regs k p) (λ xs. on_next (read_args image heap regs ps ks) (λ ys. Ok (xs ++ ys)))) (Arguments image heap (p ∷ ps) (k ∷ ks))
  single_args image heap p ps k ks is rest =
      where_next (λ xs. AreWords (words_in s k (is_long p)) xs × ValueOf image heap p (is_long p) xs) (Arguments image heap (p ∷ ps) (k ∷ ks)) (read_value image heap regs k p) _ (value_read image heap p k)
      (λ xs one. where_next (Arguments image heap ps ks) (Arguments image heap (p ∷ ps) (k ∷ ks)) (read_args image heap regs ps ks) (λ ys. Ok (xs ++ ys)) rest
      (λ ys all. one_more xs ys (is_long p) is one.0 one.1 all.0 all.1))
    where
      one_more : (xs ys : List Value) (b : Bool) → b ≡ false → AreWords (words_in s k b) xs → ValueOf image heap p b xs → AreWords (map (reg_word s) ks) ys → AreOf image heap ps ys → Arguments image heap (p ∷ ps) (k ∷ ks) (xs ++ ys)
      one_more xs ys false e are (Single x fits) more all = ((are.0, more), subst (λ (c : Bool). OfOne image heap p c (is_reference p) (x ∷ ys) (AreOf image heap ps)) (sym is) (single (is_reference p) fits all))
        where
          single : (r : Bool) → IsSingle image heap p r x → AreOf image heap ps ys → OfOne image heap p false r (x ∷ ys) (AreOf image heap ps)
          single true fits all = (fits, all)
          single false fits all = (fits, all)
      one_more xs ys true e are form more all = absurd (cc)

  wide_args : (image : Image) (heap : Heap) (p : Ty) (ps : List Ty) (k j : ℕ) (ks : List ℕ) → is_long p ≡ true → WhereRead (read_args image heap regs ps ks) (Arguments image heap ps ks) →
      WhereRead (on_next (read_value image heap regs k p) (λ xs. on_next (are_neighbours k j) (λ b. on_next (read_args image heap regs ps ks) (λ ys. Ok (xs ++ ys))))) (Arguments image heap (p ∷ ps) (k ∷ j ∷ ks))
  wide_args image heap p ps k j ks is rest =
      where_next (λ xs. AreWords (words_in s k (is_long p)) xs × ValueOf image heap p (is_long p) xs) (Arguments image heap (p ∷ ps) (k ∷ j ∷ ks)) (read_value image heap regs k p) _ (value_read image heap p k)
      (λ xs one. where_next (λ b. j ≡ suc k) (Arguments image heap (p ∷ ps) (k ∷ j ∷ ks)) (are_neighbours k j) _ (neighbours_read k j)
      (λ b next. where_next (Arguments image heap ps ks) (Arguments image heap (p ∷ ps) (k ∷ j ∷ ks)) (read_args image heap regs ps ks) (λ ys. Ok (xs ++ ys)) rest
      (λ ys all. two_more xs ys (is_long p) is next one.0 one.1 all.0 all.1)))
    where
      two_more : (xs ys : List Value) (b : Bool) → b ≡ true → j ≡ suc k → AreWords (words_in s k b) xs → ValueOf image heap p b xs → AreWords (map (reg_word s) ks) ys → AreOf image heap ps ys → Arguments image heap (p ∷ ps) (k ∷ j ∷ ks) (xs ++ ys)
      two_more xs ys true e next are (Wide lo hi) more all = ((are.0, (ap (reg_word s) next ∙ are.1.0, more)), subst (λ (c : Bool). OfOne image heap p c (is_reference p) (v.Lo lo ∷ v.Hi hi ∷ ys) (AreOf image heap ps)) (sym is) (tt, tt, all))
      two_more xs ys false e next are form more all = absurd (cc)

  pub args_read : (image : Image) (heap : Heap) (ps : List Ty) (ks : List ℕ) → length ks ≡ words_of_all ps → WhereRead (read_args image heap regs ps ks) (Arguments image heap ps ks)
  args_read image heap [] [] count = (tt, refl)
  args_read image heap [] (k ∷ ks) count = absurd (omega (arith, count))
  args_read image heap (p ∷ ps) [] count = tt
  args_read image heap (p ∷ ps) (k ∷ ks) count = by (is_long p) refl ks count (args_read image heap ps)
    where
      by : (b : Bool) → is_long p ≡ b → (ks : List ℕ) → length (k ∷ ks) ≡ words_of_all (p ∷ ps) → ((js : List ℕ) → length js ≡ words_of_all ps → WhereRead (read_args image heap regs ps js) (Arguments image heap ps js)) →
          WhereRead (elim b [
            | true ↦ elim ks [
              | [] ↦ Err why.Instruction
              | j ∷ js ↦ on_next (read_value image heap regs k p) (λ xs. on_next (are_neighbours k j) (λ c. on_next (read_args image heap regs ps js) (λ ys. Ok (xs ++ ys))))
            ]
            | false ↦ on_next (read_value image heap regs k p) (λ xs. on_next (read_args image heap regs ps ks) (λ ys. Ok (xs ++ ys)))
          ]) (Arguments image heap (p ∷ ps) (k ∷ ks))
      by true is [] count rest = tt
      by true is (j ∷ js) count rest = let two = words_over true p ps is in wide_args image heap p ps k j js is (rest js (omega (arith, count, two)))
      by false is ks count rest = let one = words_over false p ps is in single_args image heap p ps k ks is (rest ks (omega (arith, count, one)))

  -- ---- a result

  pub result_stands : (image : Image) (heap : Heap) (t : Ty) (k : ℕ) (b : Bool) (xs : List Value) → AreWords (words_in s k b) xs → ValueOf image heap t b xs → IsResult (kept_at s k b) (pending_words xs)
  result_stands image heap t k true xs are (Wide lo hi) = (are.0, are.1.0)
  result_stands image heap t k false xs are (Single x is) = by (is_reference t) x is are.0
    where
      by : (r : Bool) (x : Value) → IsSingle image heap t r x → IsWord (reg_word s k) x → IsResult (kept.One (reg_word s k)) (pending_words (x ∷ []))
      by true v.Zero fits is = is
      by true (v.Ref o) fits is = is
      by true x fits is = absurd (fits.reference)
      by false v.Zero number is = is
      by false (v.Num n) number is = is
      by false x number is = absurd number
