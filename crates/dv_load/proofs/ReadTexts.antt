-- The classes of a text have names, and the values of their fields stand in them.
use Rattle.std.proofs.Common.{◌≡◌, ◌≢◌, ℕ, Bool, true, false, List, [], ◌∷◌, ◌++◌, map, Option, Some, None, Result, Ok, Err, IfOk, IsTrue, subst}
use Rattle.std.specs.List.{All}
use Rattle.std.proofs.lemmas.Bool.{cond_both}
use Rattle.std.proofs.lemmas.List.Elements.{All-nil, All-cons, All-append, All-head, All-tail}
use Rattle.dv_defs.specs.declared.class.ClassDef.{ClassDef}
use Rattle.dv_defs.specs.declared.faults.LineKind.{LineKind}
use Rattle.dv_defs.specs.Field.{FieldValue, may_stand}
use Rattle.dv_defs.specs.Linked.{AreNamed, HasValues}
use Rattle.dv_lex.specs.declared.line.Stop.{Stop}
use Rattle.dv_lex.specs.Lines.{Reading}
use Rattle.dv_coderead.specs.Bodies.{number_behind}
use Rattle.dv_coderead.specs.Giving.{◌>>>◌, on_line}
use Rattle.dv_coderead.specs.Heads.{head_of}
use Rattle.dv_coderead.specs.Kept.{TextLine, kept, line_of}
use Rattle.dv_coderead.specs.Operands.{after_first, ended}
use Rattle.dv_classread.specs.declared.class_line.ClassLine.{ClassLine}
use Rattle.dv_classread.specs.declared.class_line.ClassLine.TheVariants as line
use Rattle.dv_classread.specs.declared.class_line.Signature.{Signature}
use Rattle.dv_classread.specs.declared.class_line.Standing.TheVariants as standing
use Rattle.dv_classread.specs.declared.program.ClassDraft.{ClassDraft}
use Rattle.dv_classread.specs.declared.text.Read.{Read}
use Rattle.dv_classread.specs.Assembling.{and_then, assembled_class, classes_of, methods_of}
use Rattle.dv_classread.specs.ClassLines.{class_line, lacks_super}
use Rattle.dv_classread.specs.Classes.{class_by, classes_in, fields_by, fields_in, interfaces_in, methods_in, superclass_in}
use Rattle.dv_classread.specs.Methods.{method_body}
use Rattle.dv_classread.specs.Programs.{Drafts, assembled_drafts, by_cut, drafts_in, drafts_of, program_of, text_end, with_schedule, without_schedule}
use Rattle.dv_classread.specs.Schedules.{Cut, cut_at_schedule, schedule_from}
use Rattle.dv_classread.specs.Texts.{InClass, InMethod, Method, Says, Spot, Told, added, and_told, begun, ended_in, ends_method, leaves_method, left_at, method_ended, missing_at, told_from}
use Rattle.dv_load.proofs.ReadLines.{IsSound, line_sound}

-- ---- one reading after another

-- what is read behind another is such, if it is wherever that one gives what it may
then_such : {A B : Type 0} (P : A → Type 0) (Q : B → Type 0) (read : Result A Stop) (next : A → Result B Stop) → IfOk read P → ((x : A) → P x → IfOk (next x) Q) → IfOk (read >>> next) Q
then_such P Q (Ok x) next is goes = goes x is
then_such P Q (Err e) next is goes = tt

-- or whatever that one gives
then_any : {A B : Type 0} (Q : B → Type 0) (read : Result A Stop) (next : A → Result B Stop) → ((x : A) → IfOk (next x) Q) → IfOk (read >>> next) Q
then_any Q (Ok x) next goes = goes x
then_any Q (Err e) next goes = tt

on_line_such : {A : Type 0} (P : A → Type 0) (n : ℕ) (read : Result A LineKind) → IfOk read P → IfOk (on_line n read) P
on_line_such P n (Ok x) is = is
on_line_such P n (Err k) is = tt

-- ---- what the lines of a text tell

abbrev IsSoundTold : Told → Type 0
IsSoundTold (Says l) = IsSound l
IsSoundTold (Method m) = Unit {0}

abbrev AreSound : List Told → Type 0
AreSound ts = All IsSoundTold ts

abbrev TellsSound : Result (List Told) Stop → Type 0
TellsSound read = IfOk read AreSound

ended_sound : (end : Option Stop) (past : ℕ) (spot : Spot) → TellsSound (ended_in end past spot)
ended_sound end past (InMethod s sig before) = tt
ended_sound (Some e) past (InClass s) = tt
ended_sound None past (InClass s) = cond_both (lacks_super s) (Err (missing_at past)) (Ok []) TellsSound (λ _. tt) (λ _. All-nil IsSoundTold)

more_sound : (t : Told) (rest : Result (List Told) Stop) → IsSoundTold t → TellsSound rest → TellsSound (and_told t rest)
more_sound t (Ok ts) is are = All-cons IsSoundTold t ts is are
more_sound t (Err e) is are = tt

added_sound : (l : ClassLine) (rest : Result (List Told) Stop) → IsSound l → TellsSound rest → TellsSound (added l rest)
added_sound (line.Method sig) rest is are = are
added_sound (line.Class c) rest is are = more_sound (Says (line.Class c)) rest is are
added_sound (line.Super name) rest is are = more_sound (Says (line.Super name)) rest is are
added_sound (line.Implements name) rest is are = more_sound (Says (line.Implements name)) rest is are
added_sound line.Source rest is are = more_sound (Says line.Source) rest is are
added_sound (line.Field f) rest is are = more_sound (Says (line.Field f)) rest is are

method_sound : (sig : Signature) (before : List TextLine) (l : TextLine) (rest : Result (List Told) Stop) → TellsSound rest → TellsSound (method_ended sig before l rest)
method_sound sig before l rest are =
    then_any AreSound (method_body sig l.number before) _ (λ b.
    then_any AreSound (on_line l.number (ended (after_first (after_first l.pieces)))) _ (λ _.
    more_sound (Method (record { signature = sig; body = b })) rest tt are))

told_sound : (end : Option Stop) (past : ℕ) (spot : Spot) (ls : List TextLine) → TellsSound (told_from end past spot ls)
unfolding told_from
told_sound end past spot [] = ended_sound end past spot
told_sound end past (InClass s) (l ∷ ls) =
    then_such IsSound AreSound (on_line l.number (class_line s l.number l.pieces)) _
    (on_line_such IsSound l.number (class_line s l.number l.pieces) (line_sound s l.number l.pieces)) (λ says is.
    added_sound says (told_from end past (begun s says) ls) is (told_sound end past (begun s says) ls))
told_sound end past (InMethod s sig before) (l ∷ ls) =
    cond_both (ends_method (head_of l.pieces)) _ _ TellsSound
    (λ _. method_sound sig before l (told_from end past (InClass s) ls) (told_sound end past (InClass s) ls)) (λ _.
    cond_both (leaves_method (head_of l.pieces)) (left_at (missing_at l.number) sig before) _ TellsSound (λ _. tt) (λ _.
    told_sound end past (InMethod s sig (before ++ l ∷ [])) ls))

-- ---- classes before their bodies are assembled

abbrev Stands : FieldValue → Type 0
Stands f = IsTrue (may_stand f.init f.ty f.flags)

record IsSoundDraft (c : ClassDraft) : Type 0 where
  named : c.head.name ≢ []
  values : All Stands c.fields

one_field : (l : ClassLine) (fs : List FieldValue) → IsSound l → All Stands fs → All Stands (fields_by (Says l) fs)
one_field (line.Field f) fs is are = All-cons Stands f fs is are
one_field (line.Class c) fs is are = All-nil Stands
one_field l fs is are = are

fields_stand : (ts : List Told) → AreSound ts → All Stands (fields_in ts)
unfolding fields_in
fields_stand [] are = All-nil Stands
fields_stand (Says l ∷ ts) are = one_field l (fields_in ts) (All-head IsSoundTold (Says l) ts are) (fields_stand ts (All-tail IsSoundTold (Says l) ts are))
fields_stand (Method m ∷ ts) are = fields_stand ts (All-tail IsSoundTold (Method m) ts are)

one_class : (l : ClassLine) (ts : List Told) (cs : List ClassDraft) → IsSound l → AreSound ts → All IsSoundDraft cs → All IsSoundDraft (class_by (Says l) ts cs)
one_class (line.Class c) ts cs is are others =
    All-cons IsSoundDraft (record { head = c; parent = superclass_in ts; interfaces = interfaces_in ts; fields = fields_in ts; methods = methods_in ts }) cs
    (record { named = is; values = fields_stand ts are }) others
one_class l ts cs is are others = others

drafts_sound : (ts : List Told) → AreSound ts → All IsSoundDraft (classes_in ts)
unfolding classes_in
drafts_sound [] are = All-nil IsSoundDraft
drafts_sound (Says l ∷ ts) are =
    let rest = All-tail IsSoundTold (Says l) ts are in
    one_class l ts (classes_in ts) (All-head IsSoundTold (Says l) ts are) rest (drafts_sound ts rest)
drafts_sound (Method m ∷ ts) are = drafts_sound ts (All-tail IsSoundTold (Method m) ts are)

lines_sound : (end : Option Stop) (past : ℕ) (ls : List TextLine) → IfOk (drafts_of end past ls) (All IsSoundDraft)
lines_sound end past ls =
    then_such AreSound (All IsSoundDraft) (told_from end past (InClass standing.Outside) (kept 0 ls)) _ (told_sound end past (InClass standing.Outside) (kept 0 ls)) drafts_sound

-- ---- with a schedule, or without

abbrev AreSoundDrafts : Drafts → Type 0
AreSoundDrafts d = All IsSoundDraft d.0

alone_sound : (stop : Option Stop) (ls : List TextLine) → IfOk (without_schedule stop ls) AreSoundDrafts
alone_sound stop ls =
    then_such (All IsSoundDraft) AreSoundDrafts (drafts_of (text_end stop ls) (number_behind ls) ls) _ (lines_sound (text_end stop ls) (number_behind ls) ls) (λ cs are. are)

scheduled_sound : (stop : Option Stop) (past : ℕ) (c : Cut) → IfOk (with_schedule stop past c) AreSoundDrafts
scheduled_sound stop past c =
    then_such (All IsSoundDraft) AreSoundDrafts (drafts_of None c.first.number c.before) _ (lines_sound None c.first.number c.before) (λ cs are.
    then_any AreSoundDrafts (schedule_from stop past c.first c.behind) _ (λ log. are))

cut_sound : (stop : Option Stop) (ls : List TextLine) (o : Option Cut) → IfOk (by_cut stop ls o) AreSoundDrafts
cut_sound stop ls None = alone_sound stop ls
cut_sound stop ls (Some c) = scheduled_sound stop (number_behind ls) c

text_sound : (schedule : Bool) (stop : Option Stop) (ls : List TextLine) → IfOk (drafts_in schedule stop ls) AreSoundDrafts
unfolding drafts_in
text_sound false stop ls = alone_sound stop ls
text_sound true stop ls = cut_sound stop ls (cut_at_schedule 0 ls)

-- ---- classes whose bodies are assembled

pub record IsSoundClass (c : ClassDef) : Type 0 where
  pub named : c.name ≢ []
  pub values : HasValues c

class_sound : (c : ClassDraft) → IsSoundDraft c → IfOk (assembled_class c) IsSoundClass
class_sound c is = then_any IsSoundClass (methods_of c.methods) _ (λ ms. record { named = is.named; values = is.values })

and_then_sound : (c : ClassDef) (rest : Result (List ClassDef) Stop) → IsSoundClass c → IfOk rest (All IsSoundClass) → IfOk (and_then (c ∷ []) rest) (All IsSoundClass)
and_then_sound c (Ok cs) is are = All-append IsSoundClass (c ∷ []) cs (All-cons IsSoundClass c [] is (All-nil IsSoundClass)) are
and_then_sound c (Err e) is are = tt

classes_sound : (cs : List ClassDraft) → All IsSoundDraft cs → IfOk (classes_of cs) (All IsSoundClass)
unfolding classes_of
classes_sound [] are = All-nil IsSoundClass
classes_sound (c ∷ cs) are =
    then_such IsSoundClass (All IsSoundClass) (assembled_class c) _ (class_sound c (All-head IsSoundDraft c cs are)) (λ d is.
    and_then_sound d (classes_of cs) is (classes_sound cs (All-tail IsSoundDraft c cs are)))

abbrev IsSoundRead : Read → Type 0
IsSoundRead r = All IsSoundClass r.classes

program_sound : (schedule : Bool) (r : Reading) → IfOk (program_of schedule r) IsSoundRead
unfolding program_of
program_sound schedule r =
    then_such AreSoundDrafts IsSoundRead (drafts_in schedule r.stop (map line_of r.lines)) assembled_drafts (text_sound schedule r.stop (map line_of r.lines)) (λ d are.
    then_such (All IsSoundClass) IsSoundRead (classes_of d.0) _ (classes_sound d.0 are) (λ cs sound. sound))

-- ---- what is read

pub read_sound : (schedule : Bool) (r : Reading) (read : Read) → program_of schedule r ≡ Ok read → All IsSoundClass read.classes
read_sound schedule r read e =
    let P : Result Read Stop → Type 0 = λ o. IfOk o IsSoundRead in
    subst P e (program_sound schedule r)

pub all_named : (cs : List ClassDef) → All IsSoundClass cs → AreNamed cs
all_named cs are = λ k d within. (are k d within).named

pub all_valued : (cs : List ClassDef) → All IsSoundClass cs → All HasValues cs
all_valued cs are = λ k d within. (are k d within).values
