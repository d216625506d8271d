-- Whole methods: what their lines tell, or why they are bad.
use Rattle.std.proofs.Common.{◌≡◌, ℕ, ◌+◌, List, length, slice_range, Option, Some, None, Result, Ok, Err, refl, sym, subst, ap, ◌∙◌, arith}
use Rattle.std.specs.Prelude.{nat_lt, unwrap_or, if◌then◌else◌}
use Rattle.dv_defs.specs.declared.faults.LineError.{LineError}
use Rattle.dv_lex.specs.declared.line.Line.{Line}
use Rattle.dv_lex.specs.declared.line.Stop.{Stop}
use Rattle.dv_coderead.specs.Giving.{◌>>>◌, on_line, Stops}
use Rattle.dv_coderead.specs.Operands.{after_first, ended}
use Rattle.dv_coderead.specs.Kept.{TextLine, kept, kept_from, line_at, open_behind, text_lines, AreNumbered}
use Rattle.dv_coderead.specs.Bodies.{body_of, number_behind}
use Rattle.dv_coderead.specs.RawBodies.{raw_body_of}
use Rattle.dv_coderead.proofs.Drafts.{stops_all}
use Rattle.dv_draft.specs.Draft.{DraftValue}
use Rattle.dv_defs.specs.Body.{BodyValue}
use Rattle.dv_classread.specs.declared.class_line.Signature.{Signature}
use Rattle.dv_classread.specs.declared.class_line.Standing.{Standing}
use Rattle.dv_classread.specs.declared.method.BodyKind.TheVariants as of_kind
use Rattle.dv_classread.specs.declared.program.BodyDraft.{BodyDraft}
use Rattle.dv_classread.specs.declared.program.BodyDraft.TheVariants as body
use Rattle.dv_classread.specs.Methods.{arguments_of, body_by, drafted, kind_of, method_from, raw}
use Rattle.dv_classread.specs.Texts.{Told, Method, InClass, InMethod, EndsBefore, IsEnd, IsLeft, and_told, ended_in, first_bad, kept_between, left_at, missing_at, told_from, told_in_method}
use Rattle.dv_classread.proofs.Between.{number_at}
use Rattle.dv_classread.proofs.Leaving.{body_same, left_same}
use Rattle.dv_classread.proofs.Ends.{ends_at}

-- ---- bodies

-- the body of lines, of no lines none
abbrev pub body_in : Signature → List TextLine → Result (Option BodyDraft) Stop
body_in s ls = method_from s (number_behind ls) (open_behind 0 ls) (kept 0 ls)

module _ (s : Signature) (ls : List TextLine) where
  pub absent_body : kind_of (kept 0 ls) ≡ of_kind.Absent → body_in s ls ≡ Ok None
  absent_body is = ap (λ k. body_by k s (number_behind ls) (open_behind 0 ls) (kept 0 ls)) is

  raw_body : kind_of (kept 0 ls) ≡ of_kind.Raw → body_in s ls ≡ raw (raw_body_of ls)
  unfolding raw_body_of
  raw_body is = ap (λ k. body_by k s (number_behind ls) (open_behind 0 ls) (kept 0 ls)) is

  drafted_body : kind_of (kept 0 ls) ≡ of_kind.Drafted → body_in s ls ≡ drafted (body_of (arguments_of s) ls)
  unfolding body_of
  drafted_body is = ap (λ k. body_by k s (number_behind ls) (open_behind 0 ls) (kept 0 ls)) is

  pub raw_read : (b : BodyValue) → kind_of (kept 0 ls) ≡ of_kind.Raw → raw_body_of ls ≡ Ok b → body_in s ls ≡ Ok (Some (body.Raw b))
  raw_read b is read = raw_body is ∙ ap raw read

  pub raw_refused : (e : LineError) → kind_of (kept 0 ls) ≡ of_kind.Raw → Stops e (raw_body_of ls) → Stops e (body_in s ls)
  raw_refused e is stops = stops_all e (raw_body_of ls) (body_in s ls) (λ f read. raw_body is ∙ ap raw read) stops

  pub drafted_read : (d : DraftValue) → kind_of (kept 0 ls) ≡ of_kind.Drafted → body_of (arguments_of s) ls ≡ Ok d → body_in s ls ≡ Ok (Some (body.Drafted d))
  drafted_read d is read = drafted_body is ∙ ap drafted read

  pub drafted_refused : (e : LineError) → kind_of (kept 0 ls) ≡ of_kind.Drafted → Stops e (body_of (arguments_of s) ls) → Stops e (body_in s ls)
  drafted_refused e is stops = stops_all e (body_of (arguments_of s) ls) (body_in s ls) (λ f read. drafted_body is ∙ ap drafted read) stops

-- ---- methods that are left

module _ (fault : Stop) (s : Signature) (ls : List TextLine) (ends : EndsBefore fault.line ls) where
  pub left_well : (b : Option BodyDraft) → body_in s ls ≡ Ok b → left_at fault s (kept 0 ls) ≡ Err fault
  left_well b read = left_same fault s ls ends ∙ ap (λ r. Err (first_bad fault r)) read

  pub left_badly : (bad : Stop) → body_in s ls ≡ Err bad → left_at fault s (kept 0 ls) ≡ Err (if nat_lt bad.line fault.line then bad else fault)
  left_badly bad read = left_same fault s ls ends ∙ ap (λ r. Err (first_bad fault r)) read

-- ---- whole methods

module _ (text : List ℕ) (ls : List Line) (are : AreNumbered 1 ls) (from : ℕ) (sig : Signature) where
  lines_to : ℕ → List TextLine
  lines_to at = text_lines text (slice_range ls from at)

  module _ (at : ℕ) (is : IsEnd text ls from at) (end : Option Stop) (past : ℕ) (s : Standing) where
    more : Result (List Told) Stop
    more = told_from end past (InClass s) (kept_from text ls (at + 1))

    with_body : Result (Option BodyDraft) Stop → Result (List Told) Stop
    with_body r =
        let l = line_at text ls at in
        r >>> λ b. on_line l.number (ended (after_first (after_first l.pieces))) >>> λ nothing. and_told (Method (record { signature = sig; body = b })) more

    with_last : Option BodyDraft → Result (Unit {0}) Stop → Result (List Told) Stop
    with_last b r = r >>> λ nothing. and_told (Method (record { signature = sig; body = b })) more

    ends_here : EndsBefore (line_at text ls at).number (lines_to at)
    unfolding lines_to
    ends_here = subst (λ n. EndsBefore n (text_lines text (slice_range ls from at))) (sym (number_at text ls are at is.inside)) (ends_at text ls are from at is.behind (omega (arith, is.inside)))

    told : told_in_method text ls from end past s sig ≡ with_body (body_in sig (lines_to at))
    unfolding lines_to with_body more
    told = is.told end past s sig ∙ ap with_body (body_same sig (line_at text ls at).number (lines_to at) ends_here is.closed)

    with_ok : (b : Option BodyDraft) → with_body (Ok b) ≡ with_last b (on_line (line_at text ls at).number (ended (after_first (after_first (line_at text ls at).pieces))))
    unfolding with_body with_last
    with_ok b = refl

    pub refused_body : (e : LineError) → Stops e (body_in sig (text_lines text (slice_range ls from at))) → Stops e (told_in_method text ls from end past s sig)
    unfolding lines_to with_body
    refused_body e stops = stops_all e (body_in sig (lines_to at)) _ (λ f read. told ∙ ap with_body read) stops

    module _ (b : Option BodyDraft) (read : body_in sig (text_lines text (slice_range ls from at)) ≡ Ok b) where
      told_last : told_in_method text ls from end past s sig ≡ with_last b (on_line (line_at text ls at).number (ended (after_first (after_first (line_at text ls at).pieces))))
      unfolding lines_to
      told_last = told ∙ ap with_body read ∙ with_ok b

      pub refused_last : (e : LineError) → Stops e (on_line (line_at text ls at).number (ended (after_first (after_first (line_at text ls at).pieces)))) → Stops e (told_in_method text ls from end past s sig)
      unfolding with_last
      refused_last e stops = stops_all e (on_line (line_at text ls at).number (ended (after_first (after_first (line_at text ls at).pieces)))) _ (λ f is. told_last ∙ ap (with_last b) is) stops

      pub told_whole : on_line (line_at text ls at).number (ended (after_first (after_first (line_at text ls at).pieces))) ≡ Ok (record {})
          → told_in_method text ls from end past s sig ≡ and_told (Method (record { signature = sig; body = b })) (told_from end past (InClass s) (kept_from text ls (at + 1)))
      unfolding with_last more
      told_whole is = told_last ∙ ap (with_last b) is

  -- a method that is left
  pub refused_left : (at : ℕ) → IsLeft text ls from at → (e : LineError) → Stops e (left_at (missing_at (line_at text ls at).number) sig (kept_between text ls from at))
      → (end : Option Stop) (past : ℕ) (s : Standing) → Stops e (told_in_method text ls from end past s sig)
  refused_left at is e stops end past s = subst (λ (r : Result (List Told) Stop). Stops e r) (sym (is.told end past s sig)) stops

  -- a method that is cut off
  pub refused_cut : ((end : Option Stop) (past : ℕ) (s : Standing) (sig : Signature) → told_in_method text ls from end past s sig ≡ ended_in end past (InMethod s sig (kept_between text ls from (length ls))))
      → (fault : Stop) (e : LineError) → Stops e (left_at fault sig (kept_between text ls from (length ls)))
      → (end : Option Stop) (past : ℕ) (s : Standing) → unwrap_or end (missing_at past) ≡ fault → Stops e (told_in_method text ls from end past s sig)
  refused_cut off fault e stops end past s is =
      let same : told_in_method text ls from end past s sig ≡ left_at fault sig (kept_between text ls from (length ls)) =
      off end past s sig ∙ ap (λ (f : Stop). left_at f sig (kept_between text ls from (length ls))) is in
      subst (λ (r : Result (List Told) Stop). Stops e r) (sym same) stops
