-- In a linked image a method that is neither abstract nor one of the natives has a body, and a native has its own prototype.
use Rattle.std.proofs.Common.{◌≡◌, ◌<◌, ℕ, zero, suc, Bool, true, false, not, cond, ◌&&◌, ◌||◌, List, [], ◌∷◌, length, take, drop, Option, Some, None, refl, sym, ap, subst, ◌∙◌, arith}
use Rattle.std.specs.Prelude.{bytes_eq, slice_get, filter, codes, is_some, is_none, nat_lt, if◌then◌else◌}
use Rattle.std.specs.List.{list_any, list_all}
use Rattle.std.proofs.lemmas.Bool.{and_parts, not-false, or_parts}
use Rattle.std.proofs.lemmas.Slice.Eq.{bytes_eq-Decides}
use Rattle.dv_defs.specs.declared.boot.TheConstants.{BOOT_METHODS}
use Rattle.dv_defs.specs.declared.names.Ty.{Ty}
use Rattle.dv_defs.specs.declared.names.Proto.{Proto}
use Rattle.dv_defs.specs.declared.code.Body.{Body}
use Rattle.dv_defs.specs.declared.class.ClassDef.{ClassDef}
use Rattle.dv_defs.specs.declared.class.MethodDef.{MethodDef}
use Rattle.dv_defs.specs.declared.image.ClassInfo.{ClassInfo}
use Rattle.dv_defs.specs.declared.faults.LinkKind.TheVariants as kind
use Rattle.dv_defs.specs.declared.flags.Flag.TheVariants as flag
use Rattle.dv_defs.specs.declared.run.Native.{Native}
use Rattle.dv_defs.specs.Images.{Image}
use Rattle.dv_defs.specs.First.{first_in, first_below}
use Rattle.dv_defs.specs.Flags.{has_flag}
use Rattle.dv_defs.specs.Types.{ty_eq}
use Rattle.dv_defs.specs.Pools.{Method, name_at, is_static, is_native, is_abstract}
use Rattle.dv_defs.specs.Numbering.{numbered}
use Rattle.dv_defs.specs.Boot.{Row, word, rows, class_rows, is_row_of, method_rows, tells_flag, both_or_none, flags_are, type_in, result_is, types_are, method_is, methods_are, is_in_table}
use Rattle.dv_defs.specs.LinkFaults.{found, fault_at, tested, boot_fault, row_lacks, is_foreign, not_there, method_twice, wrong_body, wrong_native, wrong_constructor, body_wrong, overrides_final, wrong_methods}
use Rattle.dv_defs.specs.Linked.{IsImage, defs, method_phase}
use Rattle.law_linking.proofs.First.{or_none, when_none, map_none, first_below_none}
use Rattle.law_linking.proofs.FromFaults.{no_first_fault}
use Rattle.law_linking.proofs.OrderedImages.{image_phases}
use Rattle.law_linking.proofs.TableLaws.{proto_is}
use Rattle.dv_machine.specs.Accepted.{HasBodies}
use Rattle.dv_machine.specs.Calls.{signature, all_natives, native_among, native_of}
use Rattle.law_linked.proofs.BootRows.{MethodIn, method_in, method_row, row_there, row_class}

-- ---- what isn't found in a list

none_at : {X Y : Type 0} (f : X → Option Y) (xs : List X) (k : ℕ) (x : X) → first_in f xs ≡ None → slice_get xs k ≡ Some x → f x ≡ None
none_at f [] k x none at = absurd (cc)
none_at f (y ∷ ys) zero x none at = let same : y ≡ x = cc in subst (λ z. f z ≡ None) same (or_none (f y) (first_in f ys) none).0
none_at f (y ∷ ys) (suc k) x none at = none_at f ys k x (or_none (f y) (first_in f ys) none).1 at

-- a row that passes a test of which one does
any_at : (p : Row → Bool) (xs : List Row) → list_any p xs ≡ true → (k : ℕ) × (x : Row) × (slice_get xs k ≡ Some x) × (p x ≡ true)
any_at p [] some = absurd (cc)
any_at p (x ∷ xs) some = by (p x) refl (any_at p xs)
  where
    by : (b : Bool) → p x ≡ b → (list_any p xs ≡ true → (k : ℕ) × (y : Row) × (slice_get xs k ≡ Some y) × (p y ≡ true)) → (k : ℕ) × (y : Row) × (slice_get (x ∷ xs) k ≡ Some y) × (p y ≡ true)
    by true e rest = (0, x, refl, e)
    by false e rest =
        let there = rest (sym (ap (λ (b : Bool). b || list_any p xs) e) ∙ some) in
        (suc there.0, there.1, there.2, there.3)

-- what stands in a filtered list passes, and stands in the list
filtered_at : (p : Row → Bool) (xs : List Row) (k : ℕ) (x : Row) → slice_get (filter p xs) k ≡ Some x → (p x ≡ true) × ((j : ℕ) × (slice_get xs j ≡ Some x))
filtered_at p [] k x at = absurd (cc)
filtered_at p (y ∷ ys) k x at = by (p y) refl k at (filtered_at p ys)
  where
    by : (b : Bool) → p y ≡ b → (k : ℕ) → slice_get (cond b (y ∷ filter p ys) (filter p ys)) k ≡ Some x
        → ((k : ℕ) (x : Row) → slice_get (filter p ys) k ≡ Some x → (p x ≡ true) × ((j : ℕ) × (slice_get ys j ≡ Some x)))
        → (p x ≡ true) × ((j : ℕ) × (slice_get (y ∷ ys) j ≡ Some x))
    by true e zero at rest = let same : y ≡ x = cc in (subst (λ z. p z ≡ true) same e, (0, ap Some same))
    by true e (suc k) at rest = let r = rest k x at in (r.0, (suc r.1.0, r.1.1))
    by false e k at rest = let r = rest k x at in (r.0, (suc r.1.0, r.1.1))

all_at : (p : Row → Bool) (xs : List Row) (k : ℕ) (x : Row) → list_all p xs ≡ true → slice_get xs k ≡ Some x → p x ≡ true
all_at p [] k x all at = absurd (cc)
all_at p (y ∷ ys) zero x all at = let same : y ≡ x = cc in subst (λ z. p z ≡ true) same (and_parts (p y) (list_all p ys) all).0
all_at p (y ∷ ys) (suc k) x all at = all_at p ys k x (and_parts (p y) (list_all p ys) all).1 at

-- ---- the natives of the table

abbrev bool_same : Bool → Bool → Bool
bool_same a b = if a then b else not b

abbrev is_signed_as : Row → Option Native → Bool
is_signed_as row None = false
is_signed_as row (Some k) =
    result_is (word row 3) (signature k).proto.ret &&
    (types_are (drop 4 row) (signature k).proto.params && bool_same (tells_flag (word row 1) flag.Static) (signature k).is_static)

-- a row with the native flag is that of a native, with its prototype
abbrev is_native_row : Row → Bool
is_native_row row = not (tells_flag (word row 1) flag.Native) || is_signed_as row (native_among all_natives (word row 0) (word row 2))

native_rows : list_all is_native_row (rows BOOT_METHODS.now) ≡ true
native_rows = refl

-- ---- what a row tells

type_of : (w : List ℕ) (t : Ty) → ty_eq (type_in w) t ≡ true → type_in w ≡ t
type_of w t e =
    let whole : record { params = type_in w ∷ []; ret = None } ≡ record { params = t ∷ []; ret = None } =
    proto_is (record { params = type_in w ∷ []; ret = None }) (record { params = t ∷ []; ret = None }) (λ j. (e j && true) && true) in
    ap (λ (p : Proto). first_type p.params) whole
  where
    first_type : List Ty → Ty
    first_type [] = type_in w
    first_type (u ∷ us) = u

same_params : (ws : Row) (ts us : List Ty) → types_are ws ts ≡ true → types_are ws us ≡ true → ts ≡ us
same_params [] [] [] a b = refl
same_params [] [] (u ∷ us) a b = absurd (cc)
same_params [] (t ∷ ts) us a b = absurd (cc)
same_params (w ∷ ws) [] us a b = absurd (cc)
same_params (w ∷ ws) (t ∷ ts) [] a b = absurd (cc)
same_params (w ∷ ws) (t ∷ ts) (u ∷ us) a b =
    let p = and_parts (ty_eq (type_in w) t) (types_are ws ts) a in
    let q = and_parts (ty_eq (type_in w) u) (types_are ws us) b in
    λ j. (sym (type_of w t p.0) ∙ type_of w u q.0) j ∷ same_params ws ts us p.1 q.1 j

same_ret : (w : List ℕ) (s t : Option Ty) → result_is w s ≡ true → result_is w t ≡ true → s ≡ t
same_ret w None None a b = refl
same_ret w None (Some t) a b = absurd (let no = (and_parts (not (bytes_eq w (codes "V"))) (ty_eq (type_in w) t) b).0 in cc)
same_ret w (Some s) None a b = absurd (let no = (and_parts (not (bytes_eq w (codes "V"))) (ty_eq (type_in w) s) a).0 in cc)
same_ret w (Some s) (Some t) a b =
    let p = and_parts (not (bytes_eq w (codes "V"))) (ty_eq (type_in w) s) a in
    let q = and_parts (not (bytes_eq w (codes "V"))) (ty_eq (type_in w) t) b in
    ap Some (sym (type_of w s p.1) ∙ type_of w t q.1)

both_same : (a b : Bool) → both_or_none a b ≡ true → a ≡ b
both_same true true e = refl
both_same true false e = absurd (cc)
both_same false true e = absurd (cc)
both_same false false e = refl

same_bools : (a b c : Bool) → bool_same a b ≡ true → a ≡ c → c ≡ b
same_bools true true c e h = sym h
same_bools true false c e h = absurd (cc)
same_bools false true c e h = absurd (cc)
same_bools false false c e h = sym h

-- what a row says of the flags of a method
record TellsFlags (row : Row) (flags : ℕ) : Type 0 where
  static : tells_flag (word row 1) flag.Static ≡ has_flag flags flag.Static
  native : tells_flag (word row 1) flag.Native ≡ has_flag flags flag.Native

told_flags : (row : Row) (flags : ℕ) → flags_are (word row 1) flags ≡ true → TellsFlags row flags
told_flags row flags are =
    let a = and_parts (both_or_none (tells_flag (word row 1) flag.Static) (has_flag flags flag.Static)) _ are in
    let b = and_parts (both_or_none (tells_flag (word row 1) flag.Final) (has_flag flags flag.Final)) _ a.1 in
    let c = and_parts (both_or_none (tells_flag (word row 1) flag.Private) (has_flag flags flag.Private)) _ b.1 in
    let d = and_parts (both_or_none (tells_flag (word row 1) flag.Native) (has_flag flags flag.Native)) _ c.1 in
    record {
      static = both_same (tells_flag (word row 1) flag.Static) (has_flag flags flag.Static) a.0;
      native = both_same (tells_flag (word row 1) flag.Native) (has_flag flags flag.Native) d.0;
    }

-- a method of the table with the native flag is one of the natives, with its prototype
record IsOneOf (class name : List ℕ) (m : MethodDef) : Type 0 where
  native : Native
  among : native_among all_natives class name ≡ Some native
  proto : m.proto ≡ (signature native).proto
  static : has_flag m.flags flag.Static ≡ (signature native).is_static

and_four : (a b c d : Bool) → (a && b && c && d) ≡ true → (a ≡ true) × (b ≡ true) × (c ≡ true) × (d ≡ true)
and_four a b c d all =
    let p = and_parts (a && b && c) d all in
    let q = and_parts (a && b) c p.0 in
    let r = and_parts a b q.0 in
    (r.0, r.1, q.1, p.1)

one_of_row : (row : Row) (class : List ℕ) (m : MethodDef) → word row 0 ≡ class → is_native_row row ≡ true → method_is row m ≡ true → has_flag m.flags flag.Native ≡ true → IsOneOf class m.name m
one_of_row row class m own natives is native =
    let four = and_four (flags_are (word row 1) m.flags) (bytes_eq (word row 2) m.name) (result_is (word row 3) m.proto.ret) (types_are (drop 4 row) m.proto.params) is in
    let told = told_flags row m.flags four.0 in
    let name : word row 2 ≡ m.name = (bytes_eq-Decides (word row 2) m.name).0 four.1 in
    let signed : is_signed_as row (native_among all_natives (word row 0) (word row 2)) ≡ true =
    sym (ap (λ (b : Bool). not b || is_signed_as row (native_among all_natives (word row 0) (word row 2))) (told.native ∙ native)) ∙ natives in
    by (native_among all_natives (word row 0) (word row 2)) refl (λ j. native_among all_natives (own j) (name j)) signed told four.2 four.3
  where
    by : (o : Option Native) → native_among all_natives (word row 0) (word row 2) ≡ o → native_among all_natives (word row 0) (word row 2) ≡ native_among all_natives class m.name
        → is_signed_as row o ≡ true → TellsFlags row m.flags → result_is (word row 3) m.proto.ret ≡ true → types_are (drop 4 row) m.proto.params ≡ true → IsOneOf class m.name m
    by None e same signed told ret params = absurd (cc)
    by (Some k) e same signed told ret params =
        let a = and_parts (result_is (word row 3) (signature k).proto.ret) (types_are (drop 4 row) (signature k).proto.params && bool_same (tells_flag (word row 1) flag.Static) (signature k).is_static) signed in
        let b = and_parts (types_are (drop 4 row) (signature k).proto.params) (bool_same (tells_flag (word row 1) flag.Static) (signature k).is_static) a.1 in
        record {
          native = k;
          among = sym same ∙ e;
          proto = λ j. record { params = same_params (drop 4 row) m.proto.params (signature k).proto.params params b.0 j; ret = same_ret (word row 3) m.proto.ret (signature k).proto.ret ret a.0 j };
          static = same_bools (tells_flag (word row 1) flag.Static) (signature k).is_static (has_flag m.flags flag.Static) b.1 told.static;
        }

-- ---- in a linked image

name_in : (image : Image) (i : ℕ) (c : ClassInfo) → slice_get image.classes i ≡ Some c → name_at image i ≡ c.def.name
name_in image i c at = ap (λ (o : Option ClassInfo). elim o as (λ _. List ℕ) [ None ↦ [] | Some d ↦ d.def.name ]) at

def_at : (cs : List ClassInfo) (i : ℕ) (c : ClassInfo) → slice_get cs i ≡ Some c → slice_get (defs cs) i ≡ Some c.def
def_at [] i c at = absurd (cc)
def_at (d ∷ cs) zero c at = let same : d ≡ c = cc in ap (λ (x : ClassInfo). Some x.def) same
def_at (d ∷ cs) (suc i) c at = def_at cs i c at

within_at : (cs : List ClassDef) (i : ℕ) (c : ClassDef) → slice_get cs i ≡ Some c → i < length cs
within_at [] i c at = absurd (cc)
within_at (d ∷ cs) zero c at = omega arith
within_at (d ∷ cs) (suc i) c at = let h : i < length cs = within_at cs i c at in omega arith

front : (cs : List ClassDef) (k i : ℕ) (c : ClassDef) → slice_get cs i ≡ Some c → i < k → slice_get (take k cs) i ≡ Some c
front [] k i c at less = absurd (cc)
front (d ∷ cs) zero i c at less = absurd (omega arith)
front (d ∷ cs) (suc k) zero c at less = at
front (d ∷ cs) (suc k) (suc i) c at less = front cs k i c at (omega arith)

less_of : (i k : ℕ) → not (nat_lt i k) ≡ false → i < k
less_of i k h = grind arith

module _ (image : Image) (is : IsImage image) where
  -- nothing is wrong with the body of a method
  sound : (m : Method) (stands : MethodIn image m) → body_wrong image.boot m.info.class.0 stands.class.def m.def ≡ None
  unfolding method_phase numbered
  sound m stands =
      let cs = defs image.classes in
      let i = m.info.class.0 in
      let test = wrong_methods (numbered cs image.boot) in
      let at : slice_get cs i ≡ Some stands.class.def = def_at image.classes i stands.class stands.class_at in
      let here : fault_at test cs i ≡ None = first_below_none (fault_at test cs) (length cs) i (image_phases image is).1 (within_at cs i stands.class.def at) in
      let none : test i stands.class.def ≡ None = map_none (found stands.class.def.name) (test i stands.class.def) (ap (tested test i) (sym at) ∙ here) in
      let bodies = (or_none (first_in (body_wrong image.boot i stands.class.def) stands.class.def.methods) (first_in (overrides_final (numbered cs image.boot) i) stands.class.def.methods)
      (or_none (first_below (method_twice stands.class.def.methods) (length stands.class.def.methods)) _ none).1).0 in
      none_at (body_wrong image.boot i stands.class.def) stands.class.def.methods m.info.place m.def bodies stands.there

  right : (m : Method) (stands : MethodIn image m) → (wrong_body m.def ≡ false) × (wrong_native image.boot m.info.class.0 m.def ≡ false)
  right m stands =
      let off = when_none (wrong_body m.def || wrong_native image.boot m.info.class.0 m.def || wrong_constructor stands.class.def m.def) (kind.Body m.def.name) (sound m stands) in
      let p = or_parts (wrong_body m.def || wrong_native image.boot m.info.class.0 m.def) (wrong_constructor stands.class.def m.def) off in
      or_parts (wrong_body m.def) (wrong_native image.boot m.info.class.0 m.def) p.0

  is_known : (c : ClassDef) (i : ℕ) → slice_get (take image.boot (defs image.classes)) i ≡ Some c → is_in_table c.name ≡ true
  unfolding boot_fault
  is_known c i at =
      let fits = (no_first_fault (defs image.classes) image.boot (image_phases image is).0).boots in
      let parts = or_none (first_in (row_lacks (take image.boot (defs image.classes))) class_rows) (first_in is_foreign (take image.boot (defs image.classes))) fits in
      not-false (is_in_table c.name) (when_none (not (is_in_table c.name)) (not_there c.name) (none_at is_foreign (take image.boot (defs image.classes)) i c parts.1 at))

  in_table : (c : ClassDef) → is_in_table c.name ≡ true → (k : ℕ) × (row : Row) × (slice_get class_rows k ≡ Some row) × (is_row_of c.name row ≡ true)
  in_table c known = any_at (is_row_of c.name) class_rows known

  -- a native method is one of the natives
  is_one : (m : Method) (stands : MethodIn image m) → has_flag m.def.flags flag.Native ≡ true → IsOneOf stands.class.def.name m.def.name m.def
  is_one m stands native =
      let i = m.info.class.0 in
      let foreign : (true && not (nat_lt i image.boot)) ≡ false = sym (ap (λ (b : Bool). b && not (nat_lt i image.boot)) native) ∙ (right m stands).1 in
      let less : i < image.boot = less_of i image.boot foreign in
      let cs = defs image.classes in
      let at : slice_get (take image.boot cs) i ≡ Some stands.class.def = front cs image.boot i stands.class.def (def_at image.classes i stands.class stands.class_at) less in
      let known = in_table stands.class.def (is_known stands.class.def i at) in
      let has = row_there image is known.0 known.1 known.2 in
      let own : stands.class.def.name ≡ word known.1 0 = sym ((bytes_eq-Decides (word known.1 0) stands.class.def.name).0 known.3) in
      let same = row_class image is known.1 has i stands.class stands.class_at own in
      let methods : methods_are (method_rows (word known.1 0)) stands.class.def.methods ≡ true = subst (λ (c : ClassInfo). methods_are (method_rows (word known.1 0)) c.def.methods ≡ true) (sym same.1) has.as_row.methods in
      let row = method_row (method_rows (word known.1 0)) stands.class.def.methods m.info.place m.def methods stands.there in
      let listed = filtered_at (is_row_of (word known.1 0)) (rows BOOT_METHODS.now) m.info.place row.0 row.1 in
      let class : word row.0 0 ≡ stands.class.def.name = (bytes_eq-Decides (word row.0 0) (word known.1 0)).0 listed.0 ∙ sym own in
      one_of_row row.0 stands.class.def.name m.def class (all_at is_native_row (rows BOOT_METHODS.now) listed.1.0 row.0 native_rows listed.1.1) row.2 native

  pub image_bodies : HasBodies image
  image_bodies =
      record {
        body = λ n m at lone none. bodied m (method_in image n m at) lone none;
        native = λ n m k at some. signed m (method_in image n m at) k some;
      }
    where
      body_of : (o : Option Body) → is_none o ≡ false → (b : Body) × (o ≡ Some b)
      body_of None h = absurd (cc)
      body_of (Some b) h = (b, refl)

      bodied : (m : Method) → MethodIn image m → is_abstract m ≡ false → native_of image m ≡ None → (b : Body) × (m.def.body ≡ Some b)
      bodied m stands lone none = by (is_native m) refl
        where
          by : (b : Bool) → is_native m ≡ b → (b : Body) × (m.def.body ≡ Some b)
          by false e =
              body_of m.def.body (sym (λ j. elim (lone j || e j) as (λ _. Bool) [ true ↦ is_some m.def.body | false ↦ is_none m.def.body ]) ∙ (right m stands).0)
          by true e =
              let one = is_one m stands e in
              let given : native_of image m ≡ Some one.native =
              (λ j. elim (e j) as (λ _. Option Native) [ true ↦ native_among all_natives (name_in image m.info.class.0 stands.class stands.class_at j) m.def.name | false ↦ None ]) ∙ one.among in
              absurd (cc)

      signed : (m : Method) → MethodIn image m → (k : Native) → native_of image m ≡ Some k → (m.def.proto ≡ (signature k).proto) × (is_static m ≡ (signature k).is_static)
      signed m stands k some = by (is_native m) refl
        where
          by : (b : Bool) → is_native m ≡ b → (m.def.proto ≡ (signature k).proto) × (is_static m ≡ (signature k).is_static)
          by false e = absurd (let h : None ≡ Some k = sym (λ j. elim (e j) as (λ _. Option Native) [ true ↦ native_among all_natives (name_at image m.info.class.0) m.def.name | false ↦ None ]) ∙ some in cc)
          by true e =
              let one = is_one m stands e in
              let given : native_of image m ≡ Some one.native =
              (λ j. elim (e j) as (λ _. Option Native) [ true ↦ native_among all_natives (name_in image m.info.class.0 stands.class stands.class_at j) m.def.name | false ↦ None ]) ∙ one.among in
              let same : one.native ≡ k = cc in
              (one.proto ∙ ap (λ (x : Native). (signature x).proto) same, one.static ∙ ap (λ (x : Native). (signature x).is_static) same)
