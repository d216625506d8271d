-- The classes of lines, from one line that counts to the next.
use Rattle.std.proofs.Common.{◌≡◌, ℕ, zero, suc, ◌<◌, List, [], ◌∷◌, ◌++◌, Option, Some, None, Result, Ok, Err, refl, sym, ap, ◌∙◌, arith}
use Rattle.std.specs.Prelude.{unwrap_or}
use Rattle.dv_defs.specs.declared.faults.LineError.{LineError}
use Rattle.dv_lex.specs.declared.line.Stop.{Stop}
use Rattle.dv_coderead.specs.Giving.{◌>>>◌, on_line, Stops}
use Rattle.dv_coderead.specs.Kept.{TextLine}
use Rattle.dv_coderead.proofs.Drafts.{then_same, stops_all}
use Rattle.dv_classread.specs.declared.class_line.Signature.{Signature}
use Rattle.dv_classread.specs.declared.class_line.Standing.{Standing}
use Rattle.dv_classread.specs.declared.class_line.Standing.TheVariants.{Outside}
use Rattle.dv_classread.specs.declared.class_line.ClassLine.{ClassLine}
use Rattle.dv_classread.specs.declared.class_line.ClassLine.TheVariants as line
use Rattle.dv_classread.specs.declared.program.ClassDraft.{ClassDraft}
use Rattle.dv_classread.specs.declared.program.MethodDraft.{MethodDraft}
use Rattle.dv_classread.specs.declared.program.ClassesSoFar.{ClassesSoFar}
use Rattle.dv_classread.specs.ClassLines.{class_line, stands_next}
use Rattle.dv_classread.specs.Texts.{Told, Says, Method, InClass, InMethod, added, and_told, begun, ended_in, missing_at, told_from}
use Rattle.dv_classread.specs.Schedules.{end_with}
use Rattle.dv_classread.specs.Classes.{Adds, classes_from, classes_in, classes_with, last_with}
use Rattle.dv_classread.proofs.Telling.{told_class, told_none}

-- ---- what goes by what was read before

told_then : {B : Type 0} (t : Told) (r : Result (List Told) Stop) (f : List Told → Result B Stop) → (and_told t r >>> f) ≡ (r >>> λ ts. f (t ∷ ts))
told_then t (Ok ts) f = refl
told_then t (Err e) f = refl

-- ---- one line

-- what a line says, or its fault
abbrev pub line_read : Standing → TextLine → Result ClassLine Stop
line_read s l = on_line l.number (class_line s l.number l.pieces)

-- a line that begins no method
abbrev pub IsOther : ClassLine → Type 0
IsOther (line.Method sig) = ⊥
IsOther l = Unit {0}

pub other_line : (says : ClassLine) → ((sig : Signature) → says ≡ line.Method sig → ⊥) → IsOther says
other_line (line.Class c) isnt = tt
other_line (line.Super name) isnt = tt
other_line (line.Implements name) isnt = tt
other_line line.Source isnt = tt
other_line (line.Field f) isnt = tt
other_line (line.Method sig) isnt = absurd (isnt sig refl)

module _ (end : Option Stop) (past : ℕ) where
  added_other : (s : Standing) (says : ClassLine) → IsOther says → (ls : List TextLine)
      → added says (told_from end past (begun s says) ls) ≡ and_told (Says says) (told_from end past (InClass (stands_next s says)) ls)
  added_other s (line.Class c) is ls = refl
  added_other s (line.Super name) is ls = refl
  added_other s (line.Implements name) is ls = refl
  added_other s line.Source is ls = refl
  added_other s (line.Field f) is ls = refl
  added_other s (line.Method sig) is ls = absurd is

  module _ (p : ClassesSoFar) (l : TextLine) (ls : List TextLine) where
    by_line : Result ClassLine Stop → Result (List ClassDraft) Stop
    by_line r = (r >>> λ says. added says (told_from end past (begun p.standing says) ls)) >>> λ ts. Ok (classes_with p ts)

    from_line : classes_from end past p (l ∷ ls) ≡ by_line (line_read p.standing l)
    unfolding by_line
    from_line = ap (λ r. r >>> λ ts. Ok (classes_with p ts)) (told_class end past p.standing l ls)

    -- a line that is refused
    pub refused_here : (e : Stop) → line_read p.standing l ≡ Err e → classes_from end past p (l ∷ ls) ≡ Err e
    unfolding by_line
    refused_here e is = from_line ∙ ap by_line is

    -- a line that begins no method
    pub one_line : (says : ClassLine) → line_read p.standing l ≡ Ok says → IsOther says → (new : ClassesSoFar) → Adds p (Says says) new → new.standing ≡ stands_next p.standing says
        → classes_from end past p (l ∷ ls) ≡ classes_from end past new ls
    unfolding by_line
    one_line says is other new adds stands =
        from_line ∙ ap by_line is
        ∙ ap (λ r. r >>> λ ts. Ok (classes_with p ts)) (added_other p.standing says other ls)
        ∙ told_then (Says says) (told_from end past (InClass (stands_next p.standing says)) ls) (λ ts. Ok (classes_with p ts))
        ∙ then_same (told_from end past (InClass (stands_next p.standing says)) ls) _ _ (λ ts. ap Ok (sym (adds ts)))
        ∙ ap (λ s. told_from end past (InClass s) ls >>> λ ts. Ok (classes_with new ts)) (sym stands)

    module _ (sig : Signature) (is : line_read p.standing l ≡ Ok (line.Method sig)) where
      in_method : classes_from end past p (l ∷ ls) ≡ (told_from end past (InMethod p.standing sig []) ls >>> λ ts. Ok (classes_with p ts))
      unfolding by_line
      in_method = from_line ∙ ap by_line is

      -- a method that is refused
      pub refused_method : (e : LineError) → Stops e (told_from end past (InMethod p.standing sig []) ls) → Stops e (classes_from end past p (l ∷ ls))
      refused_method e stops = stops_all e (told_from end past (InMethod p.standing sig []) ls) _ (λ s is. in_method ∙ ap (λ r. r >>> λ ts. Ok (classes_with p ts)) is) stops

      -- a whole method
      pub one_method : (m : MethodDraft) (rest : List TextLine) → told_from end past (InMethod p.standing sig []) ls ≡ and_told (Method m) (told_from end past (InClass p.standing) rest)
          → (new : ClassesSoFar) → Adds p (Method m) new → new.standing ≡ p.standing → classes_from end past p (l ∷ ls) ≡ classes_from end past new rest
      one_method m rest told new adds stands =
          in_method ∙ ap (λ r. r >>> λ ts. Ok (classes_with p ts)) told
          ∙ told_then (Method m) (told_from end past (InClass p.standing) rest) (λ ts. Ok (classes_with p ts))
          ∙ then_same (told_from end past (InClass p.standing) rest) _ _ (λ ts. ap Ok (sym (adds ts)))
          ∙ ap (λ s. told_from end past (InClass s) rest >>> λ ts. Ok (classes_with new ts)) (sym stands)

  -- ---- the first line, and the end

  -- before the first line
  pub from_first : (p : ClassesSoFar) (ls : List TextLine) → p.standing ≡ Outside → p.classes.items ≡ [] → p.last ≡ None
      → classes_from end past p ls ≡ (told_from end past (InClass Outside) ls >>> λ ts. Ok (classes_in ts))
  from_first p ls stands classes last =
      ap (λ s. told_from end past (InClass s) ls >>> λ ts. Ok (classes_with p ts)) stands
      ∙ then_same (told_from end past (InClass Outside) ls) _ _
      (λ ts. ap (λ (cs : List ClassDraft). Ok (cs ++ last_with p.last ts ++ classes_in ts)) classes ∙ ap (λ (c : Option ClassDraft). Ok ([] ++ last_with c ts ++ classes_in ts)) last)

  -- behind the last line
  pub from_end : (p : ClassesSoFar) → classes_from end past p [] ≡ (ended_in end past (InClass p.standing) >>> λ ts. Ok (classes_with p ts))
  from_end p = ap (λ r. r >>> λ ts. Ok (classes_with p ts)) (told_none end past (InClass p.standing))

-- ---- how lines end

module _ (stop : Option Stop) (past : ℕ) where
  end_closed : (s : Option Stop) → end_with s past 0 ≡ s
  end_closed None = refl
  end_closed (Some e) = refl

  end_open : (s : Option Stop) (n : ℕ) → 0 < n → end_with s past n ≡ Some (unwrap_or s (missing_at past))
  end_open None zero some = absurd (omega arith)
  end_open None (suc n) some = refl
  end_open (Some e) n some = refl

  fault_is : (s : Option Stop) (n : ℕ) → unwrap_or (end_with s past n) (missing_at past) ≡ unwrap_or s (missing_at past)
  fault_is None zero = refl
  fault_is None (suc n) = refl
  fault_is (Some e) n = refl

  -- an unfinished method is told by the fault at the end, whether an annotation is open or not
  pub end_fault : (n : ℕ) → unwrap_or (end_with stop past n) (missing_at past) ≡ unwrap_or stop (missing_at past)
  end_fault n = fault_is stop n

  module _ (n : ℕ) (p : ClassesSoFar) (ls : List TextLine) (all : Result (List ClassDraft) Stop) (same : classes_from (end_with stop past n) past p ls ≡ all) (none : ls ≡ []) where
    left : all ≡ (ended_in (end_with stop past n) past (InClass p.standing) >>> λ ts. Ok (classes_with p ts))
    left = sym same ∙ ap (classes_from (end_with stop past n) past p) none ∙ from_end (end_with stop past n) past p

    -- behind the last line
    pub at_end : n ≡ 0 → all ≡ (ended_in stop past (InClass p.standing) >>> λ ts. Ok (classes_with p ts))
    at_end closed = left ∙ ap (λ m. ended_in (end_with stop past m) past (InClass p.standing) >>> λ ts. Ok (classes_with p ts)) closed ∙ ap (λ e. ended_in e past (InClass p.standing) >>> λ ts. Ok (classes_with p ts)) (end_closed stop)

    -- behind the last line, where an annotation is left open
    pub at_open : 0 < n → all ≡ Err (unwrap_or stop (missing_at past))
    at_open some = left ∙ ap (λ e. ended_in e past (InClass p.standing) >>> λ ts. Ok (classes_with p ts)) (end_open stop n some)
