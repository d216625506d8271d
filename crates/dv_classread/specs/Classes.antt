-- The classes that lines tell.
use Rattle.std.specs.Prelude.{◌≡◌, ℕ, List, [], ◌∷◌, ◌++◌, Option, Some, None, Result, Ok}
use Rattle.std.specs.Option.{option_or, option_to_list}
use Rattle.dv_defs.specs.Field.{FieldValue}
use Rattle.dv_lex.specs.declared.line.Stop.{Stop}
use Rattle.dv_coderead.specs.Giving.{◌>>>◌}
use Rattle.dv_coderead.specs.Kept.{TextLine}
use Rattle.dv_classread.specs.declared.class_line.ClassLine.TheVariants as line
use Rattle.dv_classread.specs.declared.program.MethodDraft.{MethodDraft}
use Rattle.dv_classread.specs.declared.program.ClassDraft.{ClassDraft}
use Rattle.dv_classread.specs.declared.program.ClassesSoFar.{ClassesSoFar}
use Rattle.dv_classread.specs.Texts.{Told, Says, Method, InClass, told_from}

-- ---- the parts of a class, which are told before the next class begins

abbrev pub superclass_by : Told → Option (List ℕ) → Option (List ℕ)
superclass_by (Says (line.Super name)) more = Some name
superclass_by (Says (line.Class c)) more = None
superclass_by t more = more

unfoldable pub superclass_in : List Told → Option (List ℕ)
superclass_in [] = None
superclass_in (t ∷ ts) = superclass_by t (superclass_in ts)

abbrev pub interfaces_by : Told → List (List ℕ) → List (List ℕ)
interfaces_by (Says (line.Implements name)) more = name ∷ more
interfaces_by (Says (line.Class c)) more = []
interfaces_by t more = more

unfoldable pub interfaces_in : List Told → List (List ℕ)
interfaces_in [] = []
interfaces_in (t ∷ ts) = interfaces_by t (interfaces_in ts)

abbrev pub fields_by : Told → List FieldValue → List FieldValue
fields_by (Says (line.Field f)) more = f ∷ more
fields_by (Says (line.Class c)) more = []
fields_by t more = more

unfoldable pub fields_in : List Told → List FieldValue
fields_in [] = []
fields_in (t ∷ ts) = fields_by t (fields_in ts)

abbrev pub methods_by : Told → List MethodDraft → List MethodDraft
methods_by (Method m) more = m ∷ more
methods_by (Says (line.Class c)) more = []
methods_by t more = more

unfoldable pub methods_in : List Told → List MethodDraft
methods_in [] = []
methods_in (t ∷ ts) = methods_by t (methods_in ts)

-- ---- classes

abbrev pub class_by : Told → List Told → List ClassDraft → List ClassDraft
class_by (Says (line.Class c)) ts more = record {
  head = c;
  parent = superclass_in ts;
  interfaces = interfaces_in ts;
  fields = fields_in ts;
  methods = methods_in ts;
} ∷ more
class_by t ts more = more

unfoldable pub classes_in : List Told → List ClassDraft
classes_in [] = []
classes_in (t ∷ ts) = class_by t ts (classes_in ts)

-- ---- classes that are being read: those so far, and what further lines add

abbrev pub class_with : ClassDraft → List Told → ClassDraft
class_with c ts = record {
  head = c.head;
  parent = option_or c.parent (superclass_in ts);
  interfaces = c.interfaces ++ interfaces_in ts;
  fields = c.fields ++ fields_in ts;
  methods = c.methods ++ methods_in ts;
}

abbrev pub last_with : Option ClassDraft → List Told → List ClassDraft
last_with None ts = []
last_with (Some c) ts = class_with c ts ∷ []

abbrev pub classes_with : ClassesSoFar → List Told → List ClassDraft
classes_with p ts = p.classes.items ++ last_with p.last ts ++ classes_in ts

-- the classes so far, with the last one
abbrev pub whole_classes : ClassesSoFar → List ClassDraft
whole_classes p = p.classes.items ++ option_to_list p.last

-- this was added, whatever lines stand behind it
abbrev pub Adds : ClassesSoFar → Told → ClassesSoFar → Type 0
Adds old t new = (ts : List Told) → classes_with new ts ≡ classes_with old (t ∷ ts)

-- the classes, with what these lines add
abbrev pub classes_from : Option Stop → ℕ → ClassesSoFar → List TextLine → Result (List ClassDraft) Stop
classes_from end past p ls = told_from end past (InClass p.standing) ls >>> λ ts. Ok (classes_with p ts)
