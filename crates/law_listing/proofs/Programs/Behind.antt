-- What lines tell, where further lines stand behind them.
use Rattle.std.proofs.Common.{◌≡◌, ℕ, true, false, List, [], ◌∷◌, ◌++◌, Option, None, Result, Ok, Err, IfOk, refl, ap, ◌∙◌}
use Rattle.std.proofs.lemmas.Bool.{cond_both, cond-true, cond-false}
use Rattle.dv_defs.specs.declared.faults.LineKind.{LineKind}
use Rattle.dv_lex.specs.declared.line.Stop.{Stop}
use Rattle.dv_coderead.specs.Giving.{◌>>>◌, on_line}
use Rattle.dv_coderead.specs.Heads.{head_of}
use Rattle.dv_coderead.specs.Kept.{TextLine}
use Rattle.dv_coderead.specs.Operands.{after_first, ended}
use Rattle.dv_classread.specs.declared.class_line.ClassLine.{ClassLine}
use Rattle.dv_classread.specs.declared.class_line.ClassLine.TheVariants as line
use Rattle.dv_classread.specs.declared.class_line.Signature.{Signature}
use Rattle.dv_classread.specs.declared.class_line.Standing.{Standing}
use Rattle.dv_classread.specs.declared.program.BodyDraft.{BodyDraft}
use Rattle.dv_classread.specs.Assembling.{and_then}
use Rattle.dv_classread.specs.ClassLines.{class_line, lacks_super}
use Rattle.dv_classread.specs.Methods.{method_body}
use Rattle.dv_classread.specs.Texts.{Told, Says, Method, Spot, InClass, InMethod, added, and_told, begun, ends_method, leaves_method, told_from}
use Rattle.law_listing.proofs.ClassListing.Told.{line_told}

-- Behind these lines, which tell this, a class may begin; what further lines tell comes behind.
pub record Goes (past : ℕ) (spot : Spot) (ls : List TextLine) (ts : List Told) : Type 0 where
  pub standing : Standing
  pub closed : lacks_super standing ≡ false
  pub goes : (end : Option Stop) (more : List TextLine) → told_from end past spot (ls ++ more) ≡ and_then ts (told_from end past (InClass standing) more)

no_more : (read : Result (List Told) Stop) → read ≡ and_then [] read
no_more (Ok ts) = refl
no_more (Err e) = refl

first_more : (t : Told) (ts : List Told) (read : Result (List Told) Stop) → and_told t (and_then ts read) ≡ and_then (t ∷ ts) read
first_more t ts (Ok us) = refl
first_more t ts (Err e) = refl

module _ (past : ℕ) where
  nothing_goes : (s : Standing) → IfOk (told_from None past (InClass s) []) (Goes past (InClass s) [])
  unfolding told_from
  nothing_goes s =
      let P : Result (List Told) Stop → Type 0 = λ r. IfOk r (Goes past (InClass s) []) in
      cond_both (lacks_super s) _ _ P (λ _. tt) (λ e. record { standing = s; closed = e; goes = λ end more. no_more (told_from end past (InClass s) more) })

  -- a line that tells nothing by itself
  same_goes : (spot next : Spot) (l : TextLine) (ls : List TextLine) (read : Result (List Told) Stop)
      → ((end : Option Stop) (more : List TextLine) → told_from end past spot (l ∷ (ls ++ more)) ≡ told_from end past next (ls ++ more))
      → IfOk read (Goes past next ls) → IfOk read (Goes past spot (l ∷ ls))
  same_goes spot next l ls (Ok ts) e g = record { standing = g.standing; closed = g.closed; goes = λ end more. e end more ∙ g.goes end more }
  same_goes spot next l ls (Err f) e g = tt

  -- a line that tells something
  one_goes : (spot next : Spot) (l : TextLine) (ls : List TextLine) (t : Told) (read : Result (List Told) Stop)
      → ((end : Option Stop) (more : List TextLine) → told_from end past spot (l ∷ (ls ++ more)) ≡ and_told t (told_from end past next (ls ++ more)))
      → IfOk read (Goes past next ls) → IfOk (and_told t read) (Goes past spot (l ∷ ls))
  one_goes spot next l ls t (Ok ts) e g = record {
    standing = g.standing;
    closed = g.closed;
    goes = λ end more. e end more ∙ ap (and_told t) (g.goes end more) ∙ first_more t ts (told_from end past (InClass g.standing) more);
  }
  one_goes spot next l ls t (Err f) e g = tt

  -- a line of a class
  line_goes : (s : Standing) (l : TextLine) (ls : List TextLine) (says : ClassLine) (read : Result (List Told) Stop) → class_line s l.number l.pieces ≡ Ok says
      → IfOk read (Goes past (begun s says) ls) → IfOk (added says read) (Goes past (InClass s) (l ∷ ls))
  line_goes s l ls (line.Method sig) read e g =
      same_goes (InClass s) (InMethod s sig []) l ls read (λ end more. line_told end past s l.number l.pieces (line.Method sig) (ls ++ more) e) g
  line_goes s l ls says read e g =
      one_goes (InClass s) (begun s says) l ls (Says says) read (λ end more. line_told end past s l.number l.pieces says (ls ++ more) e) g

  class_goes : (s : Standing) (l : TextLine) (ls : List TextLine) (c : Result ClassLine LineKind) → class_line s l.number l.pieces ≡ c
      → ((says : ClassLine) → IfOk (told_from None past (begun s says) ls) (Goes past (begun s says) ls))
      → IfOk (on_line l.number c >>> λ says. added says (told_from None past (begun s says) ls)) (Goes past (InClass s) (l ∷ ls))
  class_goes s l ls (Ok says) e g = line_goes s l ls says (told_from None past (begun s says) ls) e (g says)
  class_goes s l ls (Err k) e g = tt

  -- the line that ends a method
  end_told : (s : Standing) (sig : Signature) (before : List TextLine) (l : TextLine) (b : Option BodyDraft) (nothing : Unit {0}) (end : Option Stop) (more : List TextLine)
      → ends_method (head_of l.pieces) ≡ true → method_body sig l.number before ≡ Ok b → ended (after_first (after_first l.pieces)) ≡ Ok nothing
      → told_from end past (InMethod s sig before) (l ∷ more) ≡ and_told (Method (record { signature = sig; body = b })) (told_from end past (InClass s) more)
  unfolding told_from
  end_told s sig before l b nothing end more ends body alone =
      cond-true (ends_method (head_of l.pieces)) _ _ ends ∙ rw (body, alone) refl

  end_goes : (s : Standing) (sig : Signature) (before : List TextLine) (l : TextLine) (ls : List TextLine) (b : Result (Option BodyDraft) Stop) (n : Result (Unit {0}) LineKind) (read : Result (List Told) Stop)
      → ends_method (head_of l.pieces) ≡ true → method_body sig l.number before ≡ b → ended (after_first (after_first l.pieces)) ≡ n → IfOk read (Goes past (InClass s) ls)
      → IfOk (b >>> λ b. on_line l.number n >>> λ nothing. and_told (Method (record { signature = sig; body = b })) read) (Goes past (InMethod s sig before) (l ∷ ls))
  end_goes s sig before l ls (Ok b) (Ok nothing) read ends body alone g =
      one_goes (InMethod s sig before) (InClass s) l ls (Method (record { signature = sig; body = b })) read (λ end more. end_told s sig before l b nothing end (ls ++ more) ends body alone) g
  end_goes s sig before l ls (Ok b) (Err k) read ends body alone g = tt
  end_goes s sig before l ls (Err e) n read ends body alone g = tt

  inside_told : (s : Standing) (sig : Signature) (before : List TextLine) (l : TextLine) (end : Option Stop) (more : List TextLine) → ends_method (head_of l.pieces) ≡ false → leaves_method (head_of l.pieces) ≡ false
      → told_from end past (InMethod s sig before) (l ∷ more) ≡ told_from end past (InMethod s sig (before ++ l ∷ [])) more
  unfolding told_from
  inside_told s sig before l end more on stays = cond-false (ends_method (head_of l.pieces)) _ _ on ∙ cond-false (leaves_method (head_of l.pieces)) _ _ stays

  pub goes_on : (spot : Spot) (ls : List TextLine) → IfOk (told_from None past spot ls) (Goes past spot ls)
  unfolding told_from
  goes_on (InClass s) [] = nothing_goes s
  goes_on (InMethod s sig before) [] = tt
  goes_on (InClass s) (l ∷ ls) = class_goes s l ls (class_line s l.number l.pieces) refl (λ says. goes_on (begun s says) ls)
  goes_on (InMethod s sig before) (l ∷ ls) =
      let P : Result (List Told) Stop → Type 0 = λ r. IfOk r (Goes past (InMethod s sig before) (l ∷ ls)) in
      cond_both (ends_method (head_of l.pieces)) _ _ P
      (λ e. end_goes s sig before l ls (method_body sig l.number before) (ended (after_first (after_first l.pieces))) (told_from None past (InClass s) ls) e refl refl (goes_on (InClass s) ls))
      (λ on. cond_both (leaves_method (head_of l.pieces)) _ _ P (λ _. tt)
      (λ stays. same_goes (InMethod s sig before) (InMethod s sig (before ++ l ∷ [])) l ls (told_from None past (InMethod s sig (before ++ l ∷ [])) ls)
      (λ end more. inside_told s sig before l end (ls ++ more) on stays) (goes_on (InMethod s sig (before ++ l ∷ [])) ls)))
