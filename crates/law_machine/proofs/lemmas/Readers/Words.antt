-- Values by a declared type, arguments and results.
use Rattle.std.proofs.Common.{arith, ◌≡◌, ℕ, zero, suc, ◌++◌, List, [], ◌∷◌, Bool, true, false, Some, None, refl, sym, ap, ◌∙◌, subst}
use Rattle.std.specs.Prelude.{Ok, Err, nat_eq, All, if◌then◌else◌}
use Rattle.std.proofs.lemmas.List.Elements.{All-nil, All-cons}
use Rattle.dv_defs.specs.declared.names.Ty.{Ty}
use Rattle.dv_defs.specs.Images.{Image}
use Rattle.dv_machine.specs.Value.{Value}
use Rattle.dv_machine.specs.Value as v
use Rattle.dv_machine.specs.Why as why
use Rattle.dv_defs.specs.declared.faults.Rule.TheVariants as rule
use Rattle.dv_typing.specs.declared.typing.RegType.{RegType}
use Rattle.dv_typing.specs.declared.typing.RegType.TheVariants as ty
use Rattle.dv_typing.specs.declared.typing.PendingType.{PendingType}
use Rattle.dv_typing.specs.declared.typing.PendingType.TheVariants as pend
use Rattle.dv_defs.specs.Types.{is_reference, is_long}
use Rattle.dv_typing.specs.RegTypes.{Types, type_at, single_type, reg_types, all_types}
use Rattle.dv_typing.specs.Demands.{Demand, first, demand, long, is_int, is_ref, is_assignable, single_for, value_for, args_for}
use Rattle.dv_machine.specs.Heap.{Heap}
use Rattle.dv_machine.specs.State.{Reads, on_next, reg_at, read_two, read_ref, kept_int, read_single, read_value, are_neighbours, read_args}
use Rattle.dv_machine.specs.Calls.{pending_words}
use Rattle.dv_machine.specs.Conforming.{Own, Conforms, RegsConform, IsUninit, AreApart, IsGood, Fits, RefFine, ResultConforms}
use Rattle.law_types.specs.Hierarchy.{IsOrder}
use Rattle.law_machine.specs.Premises.{HoldsOf}
use Rattle.law_machine.specs.Reading.{Anything, AreWords, ReadsValue, ReadsArguments, WordsPend}
use Rattle.law_types.proofs.Facts.{no}
use Rattle.law_types.proofs.Demanded.{first_none, demanded}
use Rattle.law_machine.proofs.lemmas.Readers.Plain.{next_holds, holds_more, two_holds, kept_int_holds, ref_conforms, ref_holds, there_of}

-- ---- lists of words with their types

module _ (image : Image) (heap : Heap) (own : Own) where
  cons_regs : (x : Value) (t : RegType) (xs : List Value) (ts : Types) → Conforms image heap own x t → RegsConform image heap own xs ts → RegsConform image heap own (x ∷ xs) (t ∷ ts)
  cons_regs x t xs ts c h zero = c
  cons_regs x t xs ts c h (suc k) = h k

  cons_apart : (x : Value) (t : RegType) (xs : List Value) (ts : Types) → (IsUninit t → ⊥) → AreApart xs ts → AreApart (x ∷ xs) (t ∷ ts)
  cons_apart x t xs ts n h zero k a b = absurd (n a)
  cons_apart x t xs ts n h (suc j) zero a b = absurd (n b)
  cons_apart x t xs ts n h (suc j) (suc k) a b = h j k a b

  pub cons_good : (x : Value) (t : RegType) (xs : List Value) (ts : Types) → (IsUninit t → ⊥) → Conforms image heap own x t → IsGood image heap own xs ts → IsGood image heap own (x ∷ xs) (t ∷ ts)
  cons_good x t xs ts n c h = record { regs = cons_regs x t xs ts c h.regs; count = ap suc h.count; apart = cons_apart x t xs ts n h.apart }

  pub nil_good : IsGood image heap own [] []
  nil_good = record { regs = λ k. tt; count = refl; apart = λ j k a b. absurd a }

  -- an uninitialised receiver before words of no uninitialised type
  this_apart : (x : Value) (xs : List Value) (ts : Types) → ((k : ℕ) → IsUninit (type_at ts k) → ⊥) → AreApart (x ∷ xs) (ty.UninitThis ∷ ts)
  this_apart x xs ts n zero zero a b = (λ e. refl, λ e. refl)
  this_apart x xs ts n zero (suc k) a b = absurd (n k b)
  this_apart x xs ts n (suc j) k a b = absurd (n j a)

  pub this_good : (x : Value) (xs : List Value) (ts : Types) → Conforms image heap own x ty.UninitThis → ((k : ℕ) → IsUninit (type_at ts k) → ⊥) → IsGood image heap own xs ts → IsGood image heap own (x ∷ xs) (ty.UninitThis ∷ ts)
  this_good x xs ts c n h = record { regs = cons_regs x ty.UninitThis xs ts c h.regs; count = ap suc h.count; apart = this_apart x xs ts n }

module _ (image : Image) (heap : Heap) where
  -- a word that conforms to a type in each frame
  pub record IsWord (x : Value) (t : RegType) : Type 0 where
    pub plain : IsUninit t → ⊥
    pub conforms : (own : Own) → Conforms image heap own x t
    pub fine : RefFine image heap x

  abbrev pub AreWordsOf : List Value → Types → Type 0
  AreWordsOf [] [] = Unit {0}
  AreWordsOf (x ∷ xs) (t ∷ ts) = IsWord x t × AreWordsOf xs ts
  AreWordsOf xs ts = ⊥

  words_append : (xs ys : List Value) (ts us : Types) → AreWordsOf xs ts → AreWordsOf ys us → AreWordsOf (xs ++ ys) (ts ++ us)
  words_append [] ys [] us h k = k
  words_append (x ∷ xs) ys (t ∷ ts) us h k = (h.0, words_append xs ys ts us h.1 k)
  words_append [] ys (t ∷ ts) us h k = absurd h
  words_append (x ∷ xs) ys [] us h k = absurd h

  words_good : (own : Own) (xs : List Value) (ts : Types) → AreWordsOf xs ts → IsGood image heap own xs ts
  words_good own [] [] h = nil_good image heap own
  words_good own (x ∷ xs) (t ∷ ts) h = cons_good image heap own x t xs ts h.0.plain (h.0.conforms own) (words_good own xs ts h.1)
  words_good own [] (t ∷ ts) h = absurd h
  words_good own (x ∷ xs) [] h = absurd h

  words_fine : (xs : List Value) (ts : Types) → AreWordsOf xs ts → All (RefFine image heap) xs
  words_fine [] [] h = All-nil (RefFine image heap)
  words_fine (x ∷ xs) (t ∷ ts) h = All-cons (RefFine image heap) x xs h.0.fine (words_fine xs ts h.1)
  words_fine [] (t ∷ ts) h = absurd h
  words_fine (x ∷ xs) [] h = absurd h

  pub words : (xs : List Value) (ts : Types) → AreWordsOf xs ts → AreWords image heap xs ts
  words xs ts h = record { good = λ own. words_good own xs ts h; refs = words_fine xs ts h }

  -- ---- one value

  pub int_word : (x : Value) (own : Own) (t : RegType) → is_int t ≡ true → Conforms image heap own x t → IsWord x ty.Int
  int_word v.Zero own t e c = record { plain = λ u. u; conforms = λ o. tt; fine = tt }
  int_word (v.Num n) own t e c = record { plain = λ u. u; conforms = λ o. tt; fine = tt }
  int_word x own ty.Zero e c = absurd c
  int_word x own ty.Int e c = absurd c
  int_word x own t e c = no e

  pub class_word : (x : Value) (t : Ty) → (own : Own) → Conforms image heap own x (ty.Class t) → IsWord x (ty.Class t)
  class_word v.Zero t own c = record { plain = λ u. u; conforms = λ o. tt; fine = tt }
  class_word (v.Ref o) t own c = record { plain = λ u. u; conforms = λ p. c; fine = there_of image heap own o t c }
  class_word x t own c = absurd c

  module _ (ord : IsOrder image) (own : Own) where
    pub single_holds : (x : Value) (s : RegType) (t : Ty) (b : Bool) → (elim b as (λ w. Demand) [ true ↦ first (demand (is_ref s) (rule.V 4)) (demand (is_assignable image s t) (rule.V 5)) | false ↦ demand (is_int s) (rule.V 2) ]) ≡ None → Conforms image heap own x s → HoldsOf (λ y. IsWord y (elim b as (λ w. RegType) [ true ↦ ty.Class t | false ↦ ty.Int ])) (if b then on_next (read_ref image heap t x) (λ o. Ok x) else kept_int x)
    single_holds x s t true d c =
        let q = first_none (demand (is_ref s) (rule.V 4)) (demand (is_assignable image s t) (rule.V 5)) d in
        let k : IsWord x (ty.Class t) = class_word x t own (ref_conforms image heap own ord x s t (demanded _ _ q.0) (demanded _ _ q.1) c) in
        next_holds (λ o. Fits image heap o t) (λ y. IsWord y (ty.Class t)) (read_ref image heap t x) (λ o. Ok x) (ref_holds image heap own ord x s t (demanded _ _ q.0) (demanded _ _ q.1) c) (λ o f. k)
    single_holds x s t false d c =
        let i = demanded (is_int s) (rule.V 2) d in
        let k : IsWord x ty.Int = int_word x own s i c in
        holds_more (λ y. y ≡ x) (λ y. IsWord y ty.Int) (kept_int x) (kept_int_holds image heap own x s i c) (λ y e. subst (λ z. IsWord z ty.Int) (sym e) k)

    module _ (xs : List Value) (ts : Types) (h : RegsConform image heap own xs ts) where
      long_words : (lo hi : ℕ) → AreWordsOf (v.Lo lo ∷ v.Hi hi ∷ []) (ty.LongLo ∷ ty.LongHi ∷ [])
      long_words lo hi = (record { plain = λ u. u; conforms = λ o. tt; fine = tt }, (record { plain = λ u. u; conforms = λ o. tt; fine = tt }, tt))

      value_at : (k : ℕ) (t : Ty) (b : Bool) → (elim b as (λ w. Demand) [ true ↦ long ts k | false ↦ single_for image ts k t ]) ≡ None → HoldsOf (λ ys. AreWordsOf ys (elim b as (λ w. Types) [ true ↦ ty.LongLo ∷ ty.LongHi ∷ [] | false ↦ single_type t ∷ [] ])) (if b then on_next (read_two xs k) (λ p. Ok (v.Lo p.lo ∷ v.Hi p.hi ∷ [])) else on_next (read_single image heap t (reg_at xs k)) (λ x. Ok (x ∷ [])))
      value_at k t true d = next_holds Anything (λ ys. AreWordsOf ys (ty.LongLo ∷ ty.LongHi ∷ [])) (read_two xs k) _ (two_holds image heap own xs ts k h d) (λ p q. long_words p.lo p.hi)
      value_at k t false d = next_holds (λ y. IsWord y (single_type t)) (λ ys. AreWordsOf ys (single_type t ∷ [])) (read_single image heap t (reg_at xs k)) _ (single_holds (reg_at xs k) (type_at ts k) t (is_reference t) d (h k)) (λ y w. (w, tt))

      pub value_holds : (k : ℕ) (t : Ty) → value_for image ts k t ≡ None → HoldsOf (λ ys. AreWordsOf ys (reg_types t)) (read_value image heap xs k t)
      value_holds k t d = value_at k t (is_long t) d

      neighbours_hold : (j k : ℕ) → nat_eq j (suc k) ≡ true → HoldsOf Anything (are_neighbours k j)
      neighbours_hold j k e = by_test (nat_eq j (suc k)) e
        where
          by_test : (b : Bool) → b ≡ true → HoldsOf Anything (if b then Ok true else Err why.Pair)
          by_test true e = tt
          by_test false e = no e

      -- ---- arguments

      abbrev ReadsAll : List Ty → Type 0
      ReadsAll ps = (ks : List ℕ) → args_for image ts ps ks ≡ None → HoldsOf (λ ys. AreWordsOf ys (all_types ps)) (read_args image heap xs ps ks)

      long_demand : (k : ℕ) (p : Ty) → is_long p ≡ true → long ts k ≡ None → value_for image ts k p ≡ None
      long_demand k p e d = ap (λ z. elim z as (λ w. Demand) [ true ↦ long ts k | false ↦ single_for image ts k p ]) e ∙ d

      single_demand : (k : ℕ) (p : Ty) → is_long p ≡ false → single_for image ts k p ≡ None → value_for image ts k p ≡ None
      single_demand k p e d = ap (λ z. elim z as (λ w. Demand) [ true ↦ long ts k | false ↦ single_for image ts k p ]) e ∙ d

      -- one argument, then those after it
      one_more : (p : Ty) (ps : List Ty) → ReadsAll ps → (k : ℕ) (ks : List ℕ) (b : Bool) → is_long p ≡ b → (elim b as (λ w. Demand) [ true ↦ elim ks as (λ w. Demand) [ [] ↦ Some (rule.S 15) | j ∷ js ↦ first (long ts k) (first (demand (nat_eq j (suc k)) (rule.V 3)) (args_for image ts ps js)) ] | false ↦ first (single_for image ts k p) (args_for image ts ps ks) ]) ≡ None → HoldsOf (λ ys. AreWordsOf ys (all_types (p ∷ ps))) (elim b as (λ w. Reads (List Value)) [ true ↦ elim ks as (λ w. Reads (List Value)) [ [] ↦ Err why.Instruction | j ∷ js ↦ on_next (read_value image heap xs k p) (λ ys. on_next (are_neighbours k j) (λ c. on_next (read_args image heap xs ps js) (λ zs. Ok (ys ++ zs)))) ] | false ↦ on_next (read_value image heap xs k p) (λ ys. on_next (read_args image heap xs ps ks) (λ zs. Ok (ys ++ zs))) ])
      one_more p ps more k [] true e d = absurd (cc)
      one_more p ps more k (j ∷ js) true e d =
          let q = first_none (long ts k) (first (demand (nat_eq j (suc k)) (rule.V 3)) (args_for image ts ps js)) d in
          let r = first_none (demand (nat_eq j (suc k)) (rule.V 3)) (args_for image ts ps js) q.1 in
          next_holds (λ ys. AreWordsOf ys (reg_types p)) _ (read_value image heap xs k p) _ (value_holds k p (long_demand k p e q.0))
          (λ ys w. next_holds Anything _ (are_neighbours k j) _ (neighbours_hold j k (demanded _ _ r.0))
          (λ c a. next_holds (λ zs. AreWordsOf zs (all_types ps)) _ (read_args image heap xs ps js) _ (more js r.1)
          (λ zs u. words_append ys zs (reg_types p) (all_types ps) w u)))
      one_more p ps more k ks false e d =
          let q = first_none (single_for image ts k p) (args_for image ts ps ks) d in
          next_holds (λ ys. AreWordsOf ys (reg_types p)) _ (read_value image heap xs k p) _ (value_holds k p (single_demand k p e q.0))
          (λ ys w. next_holds (λ zs. AreWordsOf zs (all_types ps)) _ (read_args image heap xs ps ks) _ (more ks q.1)
          (λ zs u. words_append ys zs (reg_types p) (all_types ps) w u))

      pub args_hold : (ps : List Ty) → ReadsAll ps
      args_hold [] ks d = tt
      args_hold (p ∷ ps) [] d = absurd (cc)
      args_hold (p ∷ ps) (k ∷ ks) d = one_more p ps (args_hold ps) k ks (is_long p) refl d

pub reads_value : ReadsValue
reads_value image heap own xs ts k t ord h d = holds_more (λ ys. AreWordsOf image heap ys (reg_types t)) (λ ys. AreWords image heap ys (reg_types t)) (read_value image heap xs k t) (value_holds image heap ord own xs ts h k t d) (λ ys w. words image heap ys (reg_types t) w)

pub reads_arguments : ReadsArguments
reads_arguments image heap own xs ts ps ks ord h d = holds_more (λ ys. AreWordsOf image heap ys (all_types ps)) (λ ys. AreWords image heap ys (all_types ps)) (read_args image heap xs ps ks) (args_hold image heap ord own xs ts h ps ks d) (λ ys w. words image heap ys (all_types ps) w)

-- ---- results

module _ (image : Image) (heap : Heap) (own : Own) where
  two_pend : (x y : Value) (zs : List Value) → Conforms image heap own x ty.LongLo → Conforms image heap own y ty.LongHi → ResultConforms image heap own (pending_words (x ∷ y ∷ zs)) pend.Long
  two_pend (v.Lo n) (v.Hi m) zs c d = tt
  two_pend (v.Lo n) y zs c d = absurd d
  two_pend x y zs c d = absurd c

  -- one word is pending as it is
  one_pends : (x : Value) (t : RegType) → Conforms image heap own x t → ResultConforms image heap own (pending_words (x ∷ [])) (pend.One t)
  one_pends (v.Lo n) t c = c
  one_pends x t c = c

  words_at : (xs : List Value) (t : Ty) (b : Bool) → IsGood image heap own xs (elim b as (λ w. Types) [ true ↦ ty.LongLo ∷ ty.LongHi ∷ [] | false ↦ single_type t ∷ [] ]) → ResultConforms image heap own (pending_words xs) (elim b as (λ w. PendingType) [ true ↦ pend.Long | false ↦ pend.One (single_type t) ])
  words_at [] t true h = let e = h.count in absurd (cc)
  words_at (x ∷ []) t true h = let e = h.count in absurd (omega arith)
  words_at (x ∷ y ∷ zs) t true h = two_pend x y zs (h.regs 0) (h.regs 1)
  words_at [] t false h = let e = h.count in absurd (cc)
  words_at (x ∷ []) t false h = one_pends x (single_type t) (h.regs 0)
  words_at (x ∷ y ∷ zs) t false h = let e = h.count in absurd (omega arith)

pub words_pend : WordsPend
words_pend image heap own xs t w = words_at image heap own xs t (is_long t) (w.good own)
