-- The classes that are read of a text can be listed.
use Rattle.std.proofs.Common.{◌≡◌, ℕ, ◌&&◌, Bool, true, false, List, [], ◌∷◌, ◌++◌, map, Option, Some, None, IfSome, Result, Ok, Err, IfOk, inl, inr, refl}
use Rattle.std.specs.List.{All}
use Rattle.std.proofs.lemmas.Bool.{cond_both}
use Rattle.std.proofs.lemmas.List.Elements.{All-nil, All-cons, All-append, All-head, All-push, All-tail}
use Rattle.dv_defs.specs.declared.faults.LineKind.{LineKind}
use Rattle.dv_defs.specs.Body.{BodyValue}
use Rattle.dv_defs.specs.Field.{FieldValue}
use Rattle.dv_draft.specs.Draft.{DraftValue}
use Rattle.dv_asm.specs.Layout.{layout}
use Rattle.dv_asm.specs.Refusals.{Refusal, refusal}
use Rattle.dv_lex.specs.declared.line.Stop.{Stop}
use Rattle.dv_lex.specs.Lines.{reading_of}
use Rattle.dv_coderead.specs.declared.head.Directive.{Directive}
use Rattle.dv_coderead.specs.declared.head.Directive.TheVariants as directive
use Rattle.dv_coderead.specs.declared.head.Head.{Head}
use Rattle.dv_coderead.specs.declared.head.Head.TheVariants as head
use Rattle.dv_coderead.specs.Bodies.{body_from, number_behind}
use Rattle.dv_coderead.specs.Heads.{head_of}
use Rattle.dv_coderead.specs.Kept.{TextLine, counts, depth_behind, kept, line_of}
use Rattle.dv_coderead.specs.Laws.{TypesAreRead, PrototypesAreRead}
use Rattle.dv_coderead.specs.Operands.{after_first, ended}
use Rattle.dv_coderead.specs.Pieces.{Piece}
use Rattle.dv_coderead.specs.RawBodies.{raw_body_from}
use Rattle.dv_classread.specs.declared.class_line.ClassLine.{ClassLine}
use Rattle.dv_classread.specs.declared.class_line.ClassLine.TheVariants as line
use Rattle.dv_classread.specs.declared.class_line.Signature.{Signature}
use Rattle.dv_classread.specs.declared.class_line.Standing.{Standing}
use Rattle.dv_classread.specs.declared.class_line.Standing.TheVariants as standing
use Rattle.dv_classread.specs.declared.method.BodyKind.{BodyKind}
use Rattle.dv_classread.specs.declared.method.BodyKind.TheVariants as of_kind
use Rattle.dv_classread.specs.declared.program.BodyDraft.{BodyDraft}
use Rattle.dv_classread.specs.declared.program.BodyDraft.TheVariants as body
use Rattle.dv_classread.specs.declared.program.ClassDraft.{ClassDraft}
use Rattle.dv_classread.specs.declared.program.MethodDraft.{MethodDraft}
use Rattle.dv_classread.specs.declared.text.Read.{Read}
use Rattle.dv_classread.specs.Assembling.{and_then, assembled, assembled_by, assembled_class, assembled_method, classes_of, methods_of}
use Rattle.dv_classread.specs.ClassLines.{by_directive, by_head, class_head_line, class_line, class_name_line, field_line, inside_line, is_object_name, lacks_super, said, signature_line, stands_next, superclass_line}
use Rattle.dv_classread.specs.Classes.{class_by, classes_in, fields_by, fields_in, interfaces_by, interfaces_in, methods_by, methods_in, superclass_in}
use Rattle.dv_classread.specs.Methods.{arguments_of, body_by, drafted, kind_of, method_body, raw}
use Rattle.dv_classread.specs.Programs.{Drafts, assembled_drafts, by_cut, drafts_in, drafts_of, program_of, with_schedule, without_schedule}
use Rattle.dv_classread.specs.Schedules.{Cut, begins_schedule, cut_at_schedule, schedule_from, with_line}
use Rattle.dv_classread.specs.Texts.{InClass, InMethod, Method, Says, Spot, Told, added, and_told, begun, ended_in, ends_method, leaves_method, left_at, method_ended, missing_at, told_from}
use Rattle.law_listing.specs.ClassListable.{IsListedBodyIfAny, IsListedClass, IsListedMethod, IsParentText}
use Rattle.law_listing.specs.ClassPieces.{IsClassText, IsListedField}
use Rattle.law_listing.specs.DraftListable.{IsListedDraft}
use Rattle.law_listing.specs.RawListable.{IsListedRaw}
use Rattle.law_listing.specs.ReadLaws.{AreLineTexts, ArePieceTexts, IsClassHeadText, IsClassLineText, IsLineText, IsSignatureText}
use Rattle.law_listing.proofs.ReadBody.{any_ok, body_listed, kept_texts, line_then, then_listed}
use Rattle.law_listing.proofs.ReadClass.{line_listed}
use Rattle.law_listing.proofs.ReadPieces.{lines_text}
use Rattle.law_listing.proofs.ReadRaw.{raw_listed}

-- ---- where lines stand

-- a class begins where no superclass is missing, and a superclass stands in a class that lacks one
abbrev LineStands : Standing → ClassLine → Type 0
LineStands s (line.Class c) = lacks_super s ≡ false
LineStands s (line.Super name) = s ≡ standing.Inside false false
LineStands s l = Unit {0}

said_stands : {A : Type 0} (s : Standing) (f : A → ClassLine) (read : Result A LineKind) → ((x : A) → LineStands s (f x)) → IfOk (said f read) (LineStands s)
said_stands s f (Ok x) stands = stands x
said_stands s f (Err k) stands = tt

super_stands : (is_object has_super : Bool) (ps : List Piece) → IfOk (superclass_line is_object has_super ps) (LineStands (standing.Inside is_object has_super))
super_stands true has_super ps = tt
super_stands false true ps = tt
super_stands false false ps = said_stands (standing.Inside false false) line.Super (class_name_line ps) (λ _. refl)

inside_stands : (is_object has_super : Bool) (d : Directive) (ps : List Piece) → IfOk (inside_line is_object has_super d ps) (LineStands (standing.Inside is_object has_super))
inside_stands is_object has_super directive.Super ps = super_stands is_object has_super ps
inside_stands is_object has_super directive.Implements ps = said_stands (standing.Inside is_object has_super) line.Implements (class_name_line ps) (λ _. tt)
inside_stands is_object has_super directive.Field ps = said_stands (standing.Inside is_object has_super) line.Field (field_line ps) (λ _. tt)
inside_stands is_object has_super directive.Method ps = said_stands (standing.Inside is_object has_super) line.Method (signature_line ps) (λ _. tt)
inside_stands is_object has_super d ps = tt

directive_stands : (s : Standing) (n : ℕ) (d : Directive) (ps : List Piece) → IfOk (by_directive s n d ps) (LineStands s)
directive_stands s n directive.Class ps =
    let P : Result ClassLine LineKind → Type 0 = λ r. IfOk r (LineStands s) in
    cond_both (lacks_super s) _ _ P (λ _. tt) (λ e. said_stands s line.Class (class_head_line n ps) (λ _. e))
directive_stands s n directive.Source ps = tt
directive_stands standing.Outside n d ps = tt
directive_stands (standing.Inside is_object has_super) n d ps = inside_stands is_object has_super d ps

head_stands : (s : Standing) (n : ℕ) (h : Head) (ps : List Piece) → IfOk (by_head s n h ps) (LineStands s)
head_stands s n (head.Directive d) ps = directive_stands s n d (after_first ps)
head_stands s n h ps = tt

line_stands : (s : Standing) (n : ℕ) (ps : List Piece) → IfOk (class_line s n ps) (LineStands s)
unfolding class_line
line_stands s n ps = head_stands s n (head_of ps) ps

-- ---- methods

abbrev IsBodyText : Option BodyDraft → Type 0
IsBodyText None = Unit {0}
IsBodyText (Some (body.Raw b)) = IsListedRaw b
IsBodyText (Some (body.Drafted d)) = IsListedDraft d

record IsMethodText (m : MethodDraft) : Type 0 where
  signature : IsSignatureText m.signature
  body : IsBodyText m.body

drafted_listed : (read : Result DraftValue Stop) → IfOk read IsListedDraft → IfOk (drafted read) IsBodyText
drafted_listed (Ok d) is = is
drafted_listed (Err e) is = tt

raw_kind_listed : (read : Result BodyValue Stop) → IfOk read IsListedRaw → IfOk (raw read) IsBodyText
raw_kind_listed (Ok b) is = is
raw_kind_listed (Err e) is = tt

-- ---- what the lines of a text tell

abbrev TellsFrom : Standing → List Told → Type 0
TellsFrom s [] = lacks_super s ≡ false
TellsFrom s (Says l ∷ ts) = IsClassLineText l × LineStands s l × TellsFrom (stands_next s l) ts
TellsFrom s (Method m ∷ ts) = IsMethodText m × TellsFrom s ts

abbrev standing_of : Spot → Standing
standing_of (InClass s) = s
standing_of (InMethod s sig before) = s

abbrev IsSpotText : Spot → Type 0
IsSpotText (InClass s) = Unit {0}
IsSpotText (InMethod s sig before) = IsSignatureText sig × AreLineTexts before

abbrev Tells : Standing → Result (List Told) Stop → Type 0
Tells s read = IfOk read (TellsFrom s)

ended_listed : (end : Option Stop) (past : ℕ) (spot : Spot) → Tells (standing_of spot) (ended_in end past spot)
ended_listed end past (InMethod s sig before) = tt
ended_listed (Some e) past (InClass s) = tt
ended_listed None past (InClass s) = cond_both (lacks_super s) (Err (missing_at past)) (Ok []) (Tells s) (λ _. tt) (λ e. e)

begun_text : (s : Standing) (says : ClassLine) → IsClassLineText says → IsSpotText (begun s says)
begun_text s (line.Method sig) is = (is, All-nil IsLineText)
begun_text s (line.Class c) is = tt
begun_text s (line.Super name) is = tt
begun_text s (line.Implements name) is = tt
begun_text s line.Source is = tt
begun_text s (line.Field f) is = tt

says_more : (s : Standing) (l : ClassLine) (rest : Result (List Told) Stop) → IsClassLineText l → LineStands s l → Tells (stands_next s l) rest → Tells s (and_told (Says l) rest)
says_more s l (Ok ts) is stands tells = (is, stands, tells)
says_more s l (Err e) is stands tells = tt

added_listed : (s : Standing) (says : ClassLine) (rest : Result (List Told) Stop) → IsClassLineText says → LineStands s says → Tells (standing_of (begun s says)) rest → Tells s (added says rest)
added_listed s (line.Method sig) rest is stands tells = tells
added_listed s (line.Class c) rest is stands tells = says_more s (line.Class c) rest is stands tells
added_listed s (line.Super name) rest is stands tells = says_more s (line.Super name) rest is stands tells
added_listed s (line.Implements name) rest is stands tells = says_more s (line.Implements name) rest is stands tells
added_listed s line.Source rest is stands tells = says_more s line.Source rest is stands tells
added_listed s (line.Field f) rest is stands tells = says_more s (line.Field f) rest is stands tells

method_more : (s : Standing) (m : MethodDraft) (rest : Result (List Told) Stop) → IsMethodText m → Tells s rest → Tells s (and_told (Method m) rest)
method_more s m (Ok ts) is tells = (is, tells)
method_more s m (Err e) is tells = tt

both_ok : {A : Type 0} (P Q : A → Type 0) (read : Result A LineKind) → IfOk read P → IfOk read Q → IfOk read (λ x. P x × Q x)
both_ok P Q (Ok x) is also = (is, also)
both_ok P Q (Err k) is also = tt

module _ (types : TypesAreRead) (protos : PrototypesAreRead) where
  kind_listed : (kind : BodyKind) (sig : Signature) (past annotations : ℕ) (ls : List TextLine) → AreLineTexts ls → IfOk (body_by kind sig past annotations ls) IsBodyText
  kind_listed of_kind.Absent sig past annotations ls are = tt
  kind_listed of_kind.Raw sig past annotations ls are = raw_kind_listed (raw_body_from past annotations ls) (raw_listed types protos past annotations ls are)
  kind_listed of_kind.Drafted sig past annotations ls are =
      drafted_listed (body_from (arguments_of sig) past annotations ls) (body_listed types protos (arguments_of sig) past annotations ls are)

  method_listed : (s : Standing) (sig : Signature) (before : List TextLine) (l : TextLine) (more : Result (List Told) Stop) → IsSignatureText sig → AreLineTexts before → Tells s more
      → Tells s (method_ended sig before l more)
  method_listed s sig before l more named are tells =
      then_listed IsBodyText (TellsFrom s) (method_body sig l.number before) _ (kind_listed (kind_of before) sig l.number 0 before are) (λ b is.
      line_then (λ _. Unit {0}) (TellsFrom s) l.number (ended (after_first (after_first l.pieces))) _ (any_ok (ended (after_first (after_first l.pieces)))) (λ _ _.
      method_more s (record { signature = sig; body = b }) more (record { signature = named; body = is }) tells))

  class_line_listed : (s : Standing) (n : ℕ) (ps : List Piece) → ArePieceTexts ps → IfOk (class_line s n ps) (λ l. IsClassLineText l × LineStands s l)
  class_line_listed s n ps are = both_ok IsClassLineText (LineStands s) (class_line s n ps) (line_listed types protos s n ps are) (line_stands s n ps)

  told_listed : (end : Option Stop) (past : ℕ) (spot : Spot) (ls : List TextLine) → IsSpotText spot → AreLineTexts ls → Tells (standing_of spot) (told_from end past spot ls)
  unfolding told_from
  told_listed end past spot [] is are = ended_listed end past spot
  told_listed end past (InClass s) (l ∷ ls) is are =
      line_then (λ says. IsClassLineText says × LineStands s says) (TellsFrom s) l.number (class_line s l.number l.pieces) _
      (class_line_listed s l.number l.pieces (All-head IsLineText l ls are)) (λ says holds.
      added_listed s says (told_from end past (begun s says) ls) holds.0 holds.1
      (told_listed end past (begun s says) ls (begun_text s says holds.0) (All-tail IsLineText l ls are)))
  told_listed end past (InMethod s sig before) (l ∷ ls) is are =
      let rest = All-tail IsLineText l ls are in
      cond_both (ends_method (head_of l.pieces)) _ _ (Tells s)
      (λ _. method_listed s sig before l (told_from end past (InClass s) ls) is.0 is.1 (told_listed end past (InClass s) ls tt rest)) (λ _.
      cond_both (leaves_method (head_of l.pieces)) (left_at (missing_at l.number) sig before) _ (Tells s) (λ _. tt) (λ _.
      told_listed end past (InMethod s sig (before ++ l ∷ [])) ls (is.0, All-push IsLineText before l is.1 (All-head IsLineText l ls are)) rest))

-- ---- classes before their bodies are assembled

record IsClassDraftText (c : ClassDraft) : Type 0 where
  head : IsClassHeadText c.head
  parent : IsParentText (is_object_name c.head.name) c.parent
  interfaces : All IsClassText c.interfaces
  fields : All IsListedField c.fields
  methods : All IsMethodText c.methods

object_only : (is_object : Bool) → lacks_super (standing.Inside is_object false) ≡ false → is_object ≡ true
object_only true e = refl
object_only false e = absurd (cc)

parent_listed : (is_object : Bool) (ts : List Told) → TellsFrom (standing.Inside is_object false) ts → IsParentText is_object (superclass_in ts)
unfolding superclass_in
parent_listed is_object [] tells = object_only is_object tells
parent_listed is_object (Says (line.Class c) ∷ ts) tells = object_only is_object tells.1
parent_listed is_object (Says (line.Super name) ∷ ts) tells = let same = tells.1 in (cc, tells.0)
parent_listed is_object (Says (line.Implements name) ∷ ts) tells = parent_listed is_object ts tells.2
parent_listed is_object (Says line.Source ∷ ts) tells = parent_listed is_object ts tells.2
parent_listed is_object (Says (line.Field f) ∷ ts) tells = parent_listed is_object ts tells.2
parent_listed is_object (Says (line.Method sig) ∷ ts) tells = parent_listed is_object ts tells.2
parent_listed is_object (Method m ∷ ts) tells = parent_listed is_object ts tells.1

one_interface : (l : ClassLine) (names : List (List ℕ)) → IsClassLineText l → All IsClassText names → All IsClassText (interfaces_by (Says l) names)
one_interface (line.Implements name) names is are = All-cons IsClassText name names is are
one_interface (line.Class c) names is are = All-nil IsClassText
one_interface l names is are = are

interfaces_listed : (s : Standing) (ts : List Told) → TellsFrom s ts → All IsClassText (interfaces_in ts)
unfolding interfaces_in
interfaces_listed s [] tells = All-nil IsClassText
interfaces_listed s (Says l ∷ ts) tells = one_interface l (interfaces_in ts) tells.0 (interfaces_listed (stands_next s l) ts tells.2)
interfaces_listed s (Method m ∷ ts) tells = interfaces_listed s ts tells.1

one_field : (l : ClassLine) (fs : List FieldValue) → IsClassLineText l → All IsListedField fs → All IsListedField (fields_by (Says l) fs)
one_field (line.Field f) fs is are = All-cons IsListedField f fs is are
one_field (line.Class c) fs is are = All-nil IsListedField
one_field l fs is are = are

fields_listed : (s : Standing) (ts : List Told) → TellsFrom s ts → All IsListedField (fields_in ts)
unfolding fields_in
fields_listed s [] tells = All-nil IsListedField
fields_listed s (Says l ∷ ts) tells = one_field l (fields_in ts) tells.0 (fields_listed (stands_next s l) ts tells.2)
fields_listed s (Method m ∷ ts) tells = fields_listed s ts tells.1

no_method : (l : ClassLine) (ms : List MethodDraft) → All IsMethodText ms → All IsMethodText (methods_by (Says l) ms)
no_method (line.Class c) ms are = All-nil IsMethodText
no_method l ms are = are

methods_listed : (s : Standing) (ts : List Told) → TellsFrom s ts → All IsMethodText (methods_in ts)
unfolding methods_in
methods_listed s [] tells = All-nil IsMethodText
methods_listed s (Says l ∷ ts) tells = no_method l (methods_in ts) (methods_listed (stands_next s l) ts tells.2)
methods_listed s (Method m ∷ ts) tells = All-cons IsMethodText m (methods_in ts) tells.0 (methods_listed s ts tells.1)

one_class : (s : Standing) (l : ClassLine) (ts : List Told) (cs : List ClassDraft) → IsClassLineText l → TellsFrom (stands_next s l) ts → All IsClassDraftText cs
    → All IsClassDraftText (class_by (Says l) ts cs)
one_class s (line.Class c) ts cs is tells are =
    let inside = standing.Inside (is_object_name c.name) false in
    All-cons IsClassDraftText (record { head = c; parent = superclass_in ts; interfaces = interfaces_in ts; fields = fields_in ts; methods = methods_in ts }) cs (record {
      head = is;
      parent = parent_listed (is_object_name c.name) ts tells;
      interfaces = interfaces_listed inside ts tells;
      fields = fields_listed inside ts tells;
      methods = methods_listed inside ts tells;
    }) are
one_class s l ts cs is tells are = are

classes_listed : (s : Standing) (ts : List Told) → TellsFrom s ts → All IsClassDraftText (classes_in ts)
unfolding classes_in
classes_listed s [] tells = All-nil IsClassDraftText
classes_listed s (Says l ∷ ts) tells = one_class s l ts (classes_in ts) tells.0 tells.2 (classes_listed (stands_next s l) ts tells.2)
classes_listed s (Method m ∷ ts) tells = classes_listed s ts tells.1

-- ---- bodies that are assembled

accepted_listed : (d : DraftValue) (q : Option Refusal) → refusal d ≡ q → IsListedDraft d → IfOk (assembled_by q (layout d)) IsListedBodyIfAny
accepted_listed d None e is = inr (record { draft = d; listed = is; accepted = e; same = refl })
accepted_listed d (Some r) e is = tt

assembled_listed : (o : Option BodyDraft) → IsBodyText o → IfOk (assembled o) IsListedBodyIfAny
unfolding assembled
assembled_listed None is = tt
assembled_listed (Some (body.Raw b)) is = inl is
assembled_listed (Some (body.Drafted d)) is = accepted_listed d (refusal d) refl is

and_then_listed : {A : Type 0} (P : A → Type 0) (xs : List A) (rest : Result (List A) Stop) → All P xs → IfOk rest (All P) → IfOk (and_then xs rest) (All P)
and_then_listed P xs (Ok ys) are others = All-append P xs ys are others
and_then_listed P xs (Err e) are others = tt

method_assembled : (m : MethodDraft) → IsMethodText m → IfOk (assembled_method m) IsListedMethod
method_assembled m is =
    then_listed IsListedBodyIfAny IsListedMethod (assembled m.body) _ (assembled_listed m.body is.body) (λ b listed. record {
      signature = record { name = is.signature.name; proto = is.signature.proto; flags = is.signature.flags };
      body = listed;
    })

methods_assembled : (ms : List MethodDraft) → All IsMethodText ms → IfOk (methods_of ms) (All IsListedMethod)
unfolding methods_of
methods_assembled [] are = All-nil IsListedMethod
methods_assembled (m ∷ ms) are =
    then_listed IsListedMethod (All IsListedMethod) (assembled_method m) _ (method_assembled m (All-head IsMethodText m ms are)) (λ d is.
    and_then_listed IsListedMethod (d ∷ []) (methods_of ms) (All-cons IsListedMethod d [] is (All-nil IsListedMethod)) (methods_assembled ms (All-tail IsMethodText m ms are)))

class_assembled : (c : ClassDraft) → IsClassDraftText c → IfOk (assembled_class c) IsListedClass
class_assembled c is =
    then_listed (All IsListedMethod) IsListedClass (methods_of c.methods) _ (methods_assembled c.methods is.methods) (λ ms are. record {
      name = is.head.name;
      flags = is.head.flags;
      parent = is.parent;
      interfaces = is.interfaces;
      fields = is.fields;
      methods = are;
    })

classes_assembled : (cs : List ClassDraft) → All IsClassDraftText cs → IfOk (classes_of cs) (All IsListedClass)
unfolding classes_of
classes_assembled [] are = All-nil IsListedClass
classes_assembled (c ∷ cs) are =
    then_listed IsListedClass (All IsListedClass) (assembled_class c) _ (class_assembled c (All-head IsClassDraftText c cs are)) (λ d is.
    and_then_listed IsListedClass (d ∷ []) (classes_of cs) (All-cons IsListedClass d [] is (All-nil IsListedClass)) (classes_assembled cs (All-tail IsClassDraftText c cs are)))

-- ---- the whole text

abbrev AreDraftTexts : Drafts → Type 0
AreDraftTexts d = All IsClassDraftText d.0

-- the lines before a schedule
cut_more : (l : TextLine) (o : Option Cut) → IsLineText l → IfSome o (λ c. AreLineTexts c.before) → IfSome (with_line l o) (λ c. AreLineTexts c.before)
cut_more l None is are = tt
cut_more l (Some c) is are = All-cons IsLineText l c.before is are

cut_listed : (n : ℕ) (ls : List TextLine) → AreLineTexts ls → IfSome (cut_at_schedule n ls) (λ c. AreLineTexts c.before)
unfolding cut_at_schedule
cut_listed n [] are = tt
cut_listed n (l ∷ ls) are =
    let P : Option Cut → Type 0 = λ o. IfSome o (λ c. AreLineTexts c.before) in
    let m = depth_behind n (head_of l.pieces) in
    cond_both (counts n (head_of l.pieces) && begins_schedule (head_of l.pieces)) _ _ P (λ _. All-nil IsLineText) (λ _.
    cut_more l (cut_at_schedule m ls) (All-head IsLineText l ls are) (cut_listed m ls (All-tail IsLineText l ls are)))

module _ (types : TypesAreRead) (protos : PrototypesAreRead) where
  drafts_listed : (end : Option Stop) (past : ℕ) (ls : List TextLine) → AreLineTexts ls → IfOk (drafts_of end past ls) (All IsClassDraftText)
  drafts_listed end past ls are =
      then_listed (TellsFrom standing.Outside) (All IsClassDraftText) (told_from end past (InClass standing.Outside) (kept 0 ls)) _
      (told_listed types protos end past (InClass standing.Outside) (kept 0 ls) tt (kept_texts 0 ls are)) (classes_listed standing.Outside)

  alone_listed : (stop : Option Stop) (ls : List TextLine) → AreLineTexts ls → IfOk (without_schedule stop ls) AreDraftTexts
  alone_listed stop ls are = then_listed (All IsClassDraftText) AreDraftTexts (drafts_of _ (number_behind ls) ls) _ (drafts_listed _ (number_behind ls) ls are) (λ cs is. is)

  any_read : {A : Type 0} (read : Result A Stop) → IfOk read (λ _. Unit {0})
  any_read (Ok x) = tt
  any_read (Err e) = tt

  scheduled_listed : (stop : Option Stop) (past : ℕ) (c : Cut) → AreLineTexts c.before → IfOk (with_schedule stop past c) AreDraftTexts
  scheduled_listed stop past c are =
      then_listed (All IsClassDraftText) AreDraftTexts (drafts_of None c.first.number c.before) _ (drafts_listed None c.first.number c.before are) (λ cs is.
      then_listed (λ _. Unit {0}) AreDraftTexts (schedule_from stop past c.first c.behind) _ (any_read (schedule_from stop past c.first c.behind)) (λ log _. is))

  cut_drafts_listed : (stop : Option Stop) (ls : List TextLine) (o : Option Cut) → AreLineTexts ls → IfSome o (λ c. AreLineTexts c.before) → IfOk (by_cut stop ls o) AreDraftTexts
  cut_drafts_listed stop ls None are before = alone_listed stop ls are
  cut_drafts_listed stop ls (Some c) are before = scheduled_listed stop (number_behind ls) c before

  all_drafts_listed : (schedule : Bool) (stop : Option Stop) (ls : List TextLine) → AreLineTexts ls → IfOk (drafts_in schedule stop ls) AreDraftTexts
  unfolding drafts_in
  all_drafts_listed false stop ls are = alone_listed stop ls are
  all_drafts_listed true stop ls are = cut_drafts_listed stop ls (cut_at_schedule 0 ls) are (cut_listed 0 ls are)

  pub program_listed : (schedule : Bool) (text : List ℕ) → IfOk (program_of schedule (reading_of text)) (λ r. All IsListedClass r.classes)
  unfolding program_of
  program_listed schedule text =
      let reading = reading_of text in
      let ls = map line_of reading.lines in
      let P : Read → Type 0 = λ r. All IsListedClass r.classes in
      then_listed AreDraftTexts P (drafts_in schedule reading.stop ls) assembled_drafts (all_drafts_listed schedule reading.stop ls (lines_text text)) (λ d are.
      then_listed (All IsListedClass) P (classes_of d.0) _ (classes_assembled d.0 are) (λ cs is. is))
