-- The name of an opcode is a word by which it is found.
use Rattle.std.proofs.Common.{◌≡◌, ℕ, ◌<◌, ◌&&◌, ◌==◌, not, Bool, true, false, List, [], ◌∷◌, length, get_or, Option, Some, None, option_map, IsSome, refl, sym, ap, subst}
use Rattle.std.specs.Prelude.{find, nat_lt, if◌then◌else◌}
use Rattle.std.specs.List.{list_all}
use Rattle.std.specs.Option.{option_map_or}
use Rattle.std.specs.Str.{IsUtf8}
use Rattle.std.proofs.lemmas.Bool.{and_parts, ltb-true, not-true}
use Rattle.std.proofs.lemmas.List.Sums.{AllPass-from_list_all}
use Rattle.std.proofs.lemmas.Str.{IsUtf8-from_ascii}
use Rattle.std.proofs.lemmas.Str.Ascii.{IsAscii-from_all}
use Rattle.dv_optable.specs.Table.{Entry, entry_at, format_at, opcode_named, table}
use Rattle.dv_optable.proofs.Laws.{name_known}
use Rattle.dv_lex.specs.Bytes.{byte_class, is_plain}
use Rattle.dv_lex.specs.Laws.Names.{IsWord}
use Rattle.dv_print.specs.Operands.{name_in, name_of}
use Rattle.dv_coderead.specs.declared.head.Head.TheVariants as head
use Rattle.dv_coderead.specs.Heads.{head_of}
use Rattle.dv_coderead.specs.Pieces.{Piece, AWord}
use Rattle.dv_coderead.specs.Words.{begins_with}

-- a word of ASCII that is neither a directive nor a label
abbrev is_good : List ℕ → Bool
is_good w = nat_lt 0 (length w) && (list_all is_plain w && (list_all (λ b. nat_lt b 128) w && (not (begins_with 46 w) && not (begins_with 58 w))))

abbrev is_good_row : Entry → Bool
is_good_row e = is_good e.name

-- each name of the table is one
all_good : list_all is_good_row table ≡ true
unfolding table byte_class
all_good = refl

-- what holds of all rows holds of one that is found
found_good : (p q : Entry → Bool) (es : List Entry) (e : Entry) → list_all p es ≡ true → find q es ≡ Some e → p e ≡ true
found_good p q [] e all is = absurd (cc)
found_good p q (x ∷ xs) e all is =
    let parts = and_parts (p x) (list_all p xs) all in
    by (q x) is (found_good p q xs e parts.1) parts.0
  where
    by : (t : Bool) → (if t then Some x else find q xs) ≡ Some e → (find q xs ≡ Some e → p e ≡ true) → p x ≡ true → p e ≡ true
    by true here rest first = let same : x ≡ e = cc in subst (λ y. p y ≡ true) same first
    by false there rest first = rest there

record IsName (op : ℕ) (w : List ℕ) : Type 0 where
  word : IsWord w
  text : IsUtf8 w
  no_dot : begins_with 46 w ≡ false
  no_colon : begins_with 58 w ≡ false
  named : opcode_named w ≡ Some op

ascii_text : (w : List ℕ) → list_all (λ b. nat_lt b 128) w ≡ true → IsUtf8 w
ascii_text w e =
    IsUtf8-from_ascii w (IsAscii-from_all w (λ k d lt. ltb-true (get_or w k d) 128 (AllPass-from_list_all (λ b. nat_lt b 128) w e k d lt)))

good_told : (op : ℕ) (w : List ℕ) → is_good w ≡ true → opcode_named w ≡ Some op → IsName op w
good_told op w good named =
    let a = and_parts (nat_lt 0 (length w)) (list_all is_plain w && (list_all (λ b. nat_lt b 128) w && (not (begins_with 46 w) && not (begins_with 58 w)))) good in
    let b = and_parts (list_all is_plain w) (list_all (λ b. nat_lt b 128) w && (not (begins_with 46 w) && not (begins_with 58 w))) a.1 in
    let c = and_parts (list_all (λ b. nat_lt b 128) w) (not (begins_with 46 w) && not (begins_with 58 w)) b.1 in
    let d = and_parts (not (begins_with 46 w)) (not (begins_with 58 w)) c.1 in
    record {
      word = (ltb-true 0 (length w) a.0, b.0);
      text = ascii_text w c.0;
      no_dot = not-true (begins_with 46 w) d.0;
      no_colon = not-true (begins_with 58 w) d.1;
      named = named;
    }

entry_found : (op : ℕ) (e : Entry) → entry_at op ≡ Some e → is_good e.name ≡ true
unfolding entry_at
entry_found op e is = found_good is_good_row (λ x. x.opcode == op) table e all_good is

has_entry : (o : Option Entry) → IsSome (option_map (λ e. e.format) o) → (e : Entry) × (o ≡ Some e)
has_entry None is = absurd (cc)
has_entry (Some e) is = (e, refl)

has_row : (op : ℕ) → IsSome (format_at op) → (e : Entry) × (entry_at op ≡ Some e)
unfolding format_at
has_row op is = has_entry (entry_at op) is

name_told : (op : ℕ) → op < 256 → IsSome (format_at op) → IsName op (name_of op)
unfolding name_of
name_told op small some =
    let row = has_row op some in
    let e = row.0 in
    let is : entry_at op ≡ Some e = row.1 in
    let name : option_map_or name_in (entry_at op) [] ≡ e.name = ap (λ o. option_map_or name_in o []) is in
    subst (IsName op) (sym name) (good_told op e.name (entry_found op e is) (name_known op e small (sym is)))

pub name_word : (op : ℕ) → op < 256 → IsSome (format_at op) → IsWord (name_of op)
name_word op small some = (name_told op small some).word

pub name_text : (op : ℕ) → op < 256 → IsSome (format_at op) → IsUtf8 (name_of op)
name_text op small some = (name_told op small some).text

-- a line that begins with it is an instruction of this opcode
head_by : (op : ℕ) (w : List ℕ) (ps : List Piece) → IsName op w → head_of (AWord w ∷ ps) ≡ head.Opcode op
unfolding head_of
head_by op w ps is = rw is.no_dot (rw is.no_colon (rw is.named refl))

pub name_head : (op : ℕ) (ps : List Piece) → op < 256 → IsSome (format_at op) → head_of (AWord (name_of op) ∷ ps) ≡ head.Opcode op
name_head op ps small some = head_by op (name_of op) ps (name_told op small some)
