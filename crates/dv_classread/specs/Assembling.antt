-- Classes whose bodies are assembled.
use Rattle.std.specs.Prelude.{List, [], ◌∷◌, ◌++◌, Option, Some, None, Result, Ok, Err}
use Rattle.dv_defs.specs.declared.class.ClassDef.{ClassDef}
use Rattle.dv_defs.specs.declared.class.MethodDef.{MethodDef}
use Rattle.dv_defs.specs.Body.{BodyValue}
use Rattle.dv_asm.specs.Layout.{layout}
use Rattle.dv_asm.specs.Refusals.{Refusal, refusal}
use Rattle.dv_lex.specs.declared.line.Stop.{Stop}
use Rattle.dv_coderead.specs.Giving.{◌>>>◌}
use Rattle.dv_classread.specs.declared.class_line.Signature.{Signature}
use Rattle.dv_classread.specs.declared.program.BodyDraft.{BodyDraft}
use Rattle.dv_classread.specs.declared.program.BodyDraft.TheVariants as body
use Rattle.dv_classread.specs.declared.program.MethodDraft.{MethodDraft}
use Rattle.dv_classread.specs.declared.program.ClassDraft.{ClassDraft}

abbrev pub as_stop : Refusal → Stop
as_stop r = record { line = r.line; kind = r.kind }

abbrev pub assembled_by : Option Refusal → BodyValue → Result (Option BodyValue) Stop
assembled_by None b = Ok (Some b)
assembled_by (Some r) b = Err (as_stop r)

-- a body as units
unfoldable pub assembled : Option BodyDraft → Result (Option BodyValue) Stop
assembled None = Ok None
assembled (Some (body.Raw b)) = Ok (Some b)
assembled (Some (body.Drafted d)) = assembled_by (refusal d) (layout d)

abbrev pub method_of : Signature → Option BodyValue → MethodDef
method_of s b = record { name = s.name; proto = s.proto; flags = s.flags; body = b }

-- these, and then those that are given behind them
abbrev pub and_then : {A : Type 0} → List A → Result (List A) Stop → Result (List A) Stop
and_then xs (Ok ys) = Ok (xs ++ ys)
and_then xs (Err e) = Err e

abbrev pub assembled_method : MethodDraft → Result MethodDef Stop
assembled_method m = assembled m.body >>> λ b. Ok (method_of m.signature b)

-- methods in the order of the text: the first that isn't assembled is told
unfoldable pub methods_of : List MethodDraft → Result (List MethodDef) Stop
methods_of [] = Ok []
methods_of (m ∷ ms) = assembled_method m >>> λ d. and_then (d ∷ []) (methods_of ms)

abbrev pub class_of_draft : ClassDraft → List MethodDef → ClassDef
class_of_draft c ms = record {
  name = c.head.name;
  parent = c.parent;
  interfaces = c.interfaces;
  flags = c.head.flags;
  fields = c.fields;
  methods = ms;
  line = c.head.line;
}

abbrev pub assembled_class : ClassDraft → Result ClassDef Stop
assembled_class c = methods_of c.methods >>> λ ms. Ok (class_of_draft c ms)

unfoldable pub classes_of : List ClassDraft → Result (List ClassDef) Stop
classes_of [] = Ok []
classes_of (c ∷ cs) = assembled_class c >>> λ d. and_then (d ∷ []) (classes_of cs)
