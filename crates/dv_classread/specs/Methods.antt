-- The body of a method, by its lines.
use Rattle.std.specs.Prelude.{ℕ, ◌&&◌, Bool, true, false, List, [], ◌∷◌, Option, Some, None, Result, Ok, Err, if◌then◌else◌}
use Rattle.dv_defs.specs.declared.flags.Flag.TheVariants.{Static}
use Rattle.dv_defs.specs.Body.{BodyValue}
use Rattle.dv_defs.specs.Flags.{has_flag}
use Rattle.dv_draft.specs.Draft.{DraftValue}
use Rattle.dv_lex.specs.declared.line.Stop.{Stop}
use Rattle.dv_coderead.specs.declared.head.Block.TheVariants.{Units}
use Rattle.dv_coderead.specs.declared.head.Directive.TheVariants as directive
use Rattle.dv_coderead.specs.declared.head.Head.{Head}
use Rattle.dv_coderead.specs.declared.head.Head.TheVariants as head
use Rattle.dv_coderead.specs.Heads.{head_of}
use Rattle.dv_coderead.specs.Kept.{TextLine}
use Rattle.dv_coderead.specs.Bodies.{argument_words, body_from}
use Rattle.dv_coderead.specs.RawBodies.{raw_body_from}
use Rattle.dv_classread.specs.declared.class_line.Signature.{Signature}
use Rattle.dv_classread.specs.declared.method.BodyKind.{BodyKind}
use Rattle.dv_classread.specs.declared.method.BodyKind.TheVariants as of_kind
use Rattle.dv_classread.specs.declared.program.BodyDraft.{BodyDraft}
use Rattle.dv_classread.specs.declared.program.BodyDraft.TheVariants as body

-- ---- of which kind it is

abbrev pub is_raw_head : Head → Bool
is_raw_head (head.Directive directive.Rawref) = true
is_raw_head (head.Directive (directive.Begin Units)) = true
is_raw_head h = false

abbrev pub is_count_head : Head → Bool
is_count_head (head.Directive directive.Registers) = true
is_count_head h = false

abbrev pub begins_raw : List TextLine → Bool
begins_raw [] = false
begins_raw (l ∷ ls) = is_raw_head (head_of l.pieces)

-- Without lines there is no body. It is raw where an entry of a pool or the units stand right behind the count of registers.
unfoldable pub kind_of : List TextLine → BodyKind
kind_of [] = of_kind.Absent
kind_of (l ∷ ls) = if is_count_head (head_of l.pieces) && begins_raw ls then of_kind.Raw else of_kind.Drafted

-- ---- what it is

abbrev pub drafted : Result DraftValue Stop → Result (Option BodyDraft) Stop
drafted (Ok d) = Ok (Some (body.Drafted d))
drafted (Err e) = Err e

abbrev pub raw : Result BodyValue Stop → Result (Option BodyDraft) Stop
raw (Ok b) = Ok (Some (body.Raw b))
raw (Err e) = Err e

abbrev pub arguments_of : Signature → ℕ
arguments_of s = argument_words s.proto (has_flag s.flags Static)

abbrev pub body_by : BodyKind → Signature → ℕ → ℕ → List TextLine → Result (Option BodyDraft) Stop
body_by of_kind.Absent s past annotations ls = Ok None
body_by of_kind.Raw s past annotations ls = raw (raw_body_from past annotations ls)
body_by of_kind.Drafted s past annotations ls = drafted (body_from (arguments_of s) past annotations ls)

-- the body of a method, whose lines these are, behind which so many annotations are open; the line behind them has this number
abbrev pub method_from : Signature → ℕ → ℕ → List TextLine → Result (Option BodyDraft) Stop
method_from s past annotations ls = body_by (kind_of ls) s past annotations ls

abbrev pub method_body : Signature → ℕ → List TextLine → Result (Option BodyDraft) Stop
method_body s past ls = method_from s past 0 ls
