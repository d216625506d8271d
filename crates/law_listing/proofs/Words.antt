-- Words as they are printed, and what they are read as.
use Rattle.std.proofs.Common.{◌≡◌, ℕ, zero, suc, ◌+◌, ◌-◌, ◌*◌, ◌/◌, ◌%◌, ◌^◌, ◌<◌, ◌≤◌, ◌==◌, Bool, true, false, ◌&&◌, List, [], ◌∷◌, ◌++◌, length, drop, Option, Some, None, Ok, inl, inr, refl, ap, ◌∙◌, subst, arith, lit<, append-nil, length-append}
use Rattle.std.specs.Prelude.{ℤ, pos, negsuc, ◌≤ℤ◌, unsigned_abs, not, nat_lt, if◌then◌else◌, IsTrue}
use Rattle.std.specs.Fmt.{decimal, signed_decimal}
use Rattle.std.specs.List.{list_all}
use Rattle.std.specs.Str.{IsUtf8}
use Rattle.std.proofs.lemmas.Bool.{and_from, and_parts, and_right, or_left, cases_Bool, cond-true, lt-ltb, ltb-true}
use Rattle.std.proofs.lemmas.Bool.Decides.{nat_tests}
use Rattle.std.proofs.lemmas.Fmt.{decimal_by_steps_wide}
use Rattle.std.proofs.lemmas.Int.{ints}
use Rattle.std.proofs.lemmas.List.{drop_at}
use Rattle.std.proofs.lemmas.List.Folds.{list_all-append}
use Rattle.std.proofs.lemmas.Str.{IsUtf8-nil, IsUtf8-append}
use Rattle.dv_defs.specs.declared.names.Ty.{Ty}
use Rattle.dv_defs.specs.declared.names.Proto.{Proto}
use Rattle.dv_defs.specs.declared.names.FieldRef.{FieldRef}
use Rattle.dv_defs.specs.declared.names.MethodRef.{MethodRef}
use Rattle.dv_names.specs.Descriptors.{descriptor, prototype, is_name, is_name_byte, is_plain_name, is_special_name, IsProto}
use Rattle.dv_names.specs.Written.{digit, hexadecimal, field_text, method_text}
use Rattle.dv_lex.specs.Bytes.{byte_class, is_hexadecimal, is_plain}
use Rattle.dv_lex.specs.Laws.Names.{IsWord}
use Rattle.dv_lex.specs.Laws.Numbers.{IsSigned}
use Rattle.dv_lex.specs.Literals.{digit_value}
use Rattle.dv_lex.specs.Numbers.{Number, is_decimal, is_suffix, value_from, negated, signed, in_bits}
use Rattle.dv_lex.proofs.Grammar.Utf8.{before_ascii}
use Rattle.dv_lex.proofs.Names.{name_word, label_word, type_word, proto_word, field_word, method_word}
use Rattle.dv_coderead.specs.declared.words.Frame.{Frame}
use Rattle.dv_coderead.specs.Words.{begins_with, decimal_in, digits_in, fitting, label_in, literal_in, number_in, number_of, register_in, register_of, unsigned_in}
use Rattle.dv_coderead.proofs.Spelling.{found_by, is_based}
use Rattle.dv_coderead.proofs.Numbers.{value_push}
use Rattle.dv_print.specs.Numbers.{address_text, label_name}
use Rattle.law_listing.specs.Listable.{IsNameText, IsTypeText, IsFieldText, IsMethodText}
use Rattle.law_listing.proofs.Strings.{digit_again}

-- a text that is a word
abbrev pub IsWordText : List ℕ → Type 0
IsWordText w = IsWord w × IsUtf8 w

-- ---- plain bytes

-- one text behind another
pub word_both : (u w : List ℕ) → IsWordText u → IsWordText w → IsWordText (u ++ w)
word_both u w h k = (
  (omega (arith, h.0.0, length-append u w), list_all-append is_plain u w ∙ and_from _ _ h.0.1 k.0.1),
  IsUtf8-append u w h.1 k.1,
)

pub word_cons : (b : ℕ) (w : List ℕ) → is_plain b ≡ true → b < 128 → IsWordText w → IsWordText (b ∷ w)
word_cons b w plain small h = ((omega arith, and_from _ _ plain h.0.1), before_ascii b w small h.1)

-- bytes from the minus to z, but the equals sign
abbrev pub is_simple : ℕ → Bool
is_simple b = nat_lt 44 b && nat_lt b 123 && not (b == 61)

simple_plain : (b : ℕ) → is_simple b ≡ true → is_plain b ≡ true
unfolding byte_class
simple_plain b e = grind (arith, nat_tests)

simple_small : (b : ℕ) → is_simple b ≡ true → b < 128
simple_small b e = grind (arith, nat_tests)

all_simple : (w : List ℕ) → list_all is_simple w ≡ true → (list_all is_plain w ≡ true) × IsUtf8 w
all_simple [] e = (refl, IsUtf8-nil)
all_simple (b ∷ w) e =
    let p = and_parts (is_simple b) (list_all is_simple w) e in
    let rest = all_simple w p.1 in
    (and_from _ _ (simple_plain b p.0) rest.0, before_ascii b w (simple_small b p.0) rest.1)

simple_word : (w : List ℕ) → 0 < length w → list_all is_simple w ≡ true → IsWordText w
simple_word w some e = let all = all_simple w e in ((some, all.0), all.1)

-- a fixed word: `constant (codes ".method") refl`
pub constant : (w : List ℕ) → (nat_lt 0 (length w) && list_all is_simple w) ≡ true → IsWordText w
constant w e = let p = and_parts (nat_lt 0 (length w)) (list_all is_simple w) e in simple_word w (ltb-true 0 (length w) p.0) p.1

-- ---- names and references

pub name_text : (name : List ℕ) → IsNameText name → IsWordText name
name_text name h = (name_word name h.0, h.1)

pub label_text : (name : List ℕ) → IsNameText name → IsWordText (58 ∷ name)
label_text name h = (label_word name h.0, before_ascii 58 name (lit< tt) h.1)

pub type_text : (t : Ty) → IsTypeText t → IsWordText (descriptor t)
type_text t h = (type_word t h.0, h.1)

pub proto_text : (p : Proto) → IsProto p → IsUtf8 (prototype p) → IsWordText (prototype p)
proto_text p h u = (proto_word p h, u)

pub field_ref_text : (f : FieldRef) → IsFieldText f → IsWordText (field_text f)
field_ref_text f h = (field_word f h.0, h.2)

pub method_ref_text : (m : MethodRef) → IsMethodText m → IsWordText (method_text m)
method_ref_text m h = (method_word m h.0, h.2)

-- ---- hexadecimal digits

digit_simple : (d : ℕ) → d < 16 → is_simple (digit d) ≡ true
digit_simple d lt = grind (arith, nat_tests)

digit_hexadecimal : (d : ℕ) → d < 16 → is_hexadecimal (digit d) ≡ true
digit_hexadecimal d lt = grind (arith, nat_tests)

digit_in_name : (d : ℕ) → d < 16 → is_name_byte (digit d) ≡ true
digit_in_name d lt = grind (arith, nat_tests)

-- the four digits of a number are all of this kind
of_digits : (p : ℕ → Bool) (n : ℕ) → ((d : ℕ) → d < 16 → p (digit d) ≡ true) → list_all p (hexadecimal n) ≡ true
of_digits p n each =
    rw (each (n / 4096 % 16) (omega arith), each (n / 256 % 16) (omega arith), each (n / 16 % 16) (omega arith), each (n % 16) (omega arith)) refl

pub hexadecimal_word : (n : ℕ) → IsWordText (hexadecimal n)
hexadecimal_word n = simple_word (hexadecimal n) (lit< tt) (of_digits is_simple n digit_simple)

pub hexadecimal_digits : (n : ℕ) → list_all is_hexadecimal (hexadecimal n) ≡ true
hexadecimal_digits n = of_digits is_hexadecimal n digit_hexadecimal

pub four_value_from : (a b c d : ℕ) → value_from 16 0 (a ∷ b ∷ c ∷ d ∷ []) ≡ digit_value a * 4096 + digit_value b * 256 + digit_value c * 16 + digit_value d
unfolding value_from
four_value_from a b c d = omega arith

pub hexadecimal_value : (n : ℕ) → n < 65536 → value_from 16 0 (hexadecimal n) ≡ n
hexadecimal_value n small =
    four_value_from (digit (n / 4096 % 16)) (digit (n / 256 % 16)) (digit (n / 16 % 16)) (digit (n % 16))
    ∙ rw (digit_again (n / 4096 % 16) (omega arith), digit_again (n / 256 % 16) (omega arith), digit_again (n / 16 % 16) (omega arith), digit_again (n % 16) (omega arith)) (omega arith)

-- the name of a label at an address
address_bytes : (p : ℕ → Bool) (address : ℕ) → ((d : ℕ) → d < 16 → p (digit d) ≡ true) → list_all p (address_text address) ≡ true
address_bytes p address each =
    elim (cases_Bool (nat_lt address 65536)) [
      | inl lt ↦ rw lt (of_digits p address each)
      | inr le ↦ rw le (list_all-append p (hexadecimal (address / 65536)) (hexadecimal (address % 65536)) ∙ and_from _ _ (of_digits p (address / 65536) each) (of_digits p (address % 65536) each))
    ]

pub label_name_text : (address : ℕ) → IsNameText (label_name address)
label_name_text address =
    let bytes : list_all is_name_byte (label_name address) ≡ true = address_bytes is_name_byte address digit_in_name in
    let simple : list_all is_simple (label_name address) ≡ true = address_bytes is_simple address digit_simple in
    let plain : is_plain_name (label_name address) ≡ true = and_from _ _ (lt-ltb 0 (length (label_name address)) (omega arith)) bytes in
    (or_left (is_plain_name (label_name address)) (is_special_name (label_name address)) plain, (all_simple (label_name address) simple).1)

-- ---- decimal digits

-- decimal digits of this value
pub record AreDigitsOf (n : ℕ) (ds : List ℕ) : Type 0 where
  pub some : 0 < length ds
  pub digits : list_all is_decimal ds ≡ true
  pub value : value_from 10 0 ds ≡ n

one_digit : (b : ℕ) → value_from 10 0 (b ∷ []) ≡ digit_value b
unfolding value_from
one_digit b = omega arith

decimal_digit : (n : ℕ) → n < 10 → (is_decimal (48 + n) ≡ true) × (digit_value (48 + n) ≡ n)
decimal_digit n h = (grind (arith, nat_tests), grind (arith, nat_tests))

digits_one : (n : ℕ) → n < 10 → AreDigitsOf n ((48 + n) ∷ [])
digits_one n h = let d = decimal_digit n h in record { some = omega arith; digits = rw d.0 refl; value = one_digit (48 + n) ∙ d.1 }

digits_more : (n : ℕ) (ds : List ℕ) → 10 ≤ n → AreDigitsOf (n / 10) ds → AreDigitsOf n (ds ++ ((48 + n % 10) ∷ []))
digits_more n ds h w =
    let d = decimal_digit (n % 10) (omega arith) in
    record {
      some = rw length-append (omega (arith, w.some));
      digits = rw (list_all-append, w.digits, d.0) refl;
      value = value_push 0 (48 + n % 10) ds ∙ (let v = w.value in let e = d.1 in omega arith);
    }

pub decimal_digits : (n : ℕ) → n < 10 ^ 64 → AreDigitsOf n (decimal n)
decimal_digits n small = decimal_by_steps_wide AreDigitsOf digits_one digits_more n small

-- ---- decimal numbers

decimal_simple : (b : ℕ) → is_decimal b ≡ true → is_simple b ≡ true
decimal_simple b e = grind (arith, nat_tests)

decimals_simple : (ds : List ℕ) → list_all is_decimal ds ≡ true → list_all is_simple ds ≡ true
decimals_simple [] e = refl
decimals_simple (d ∷ ds) e = let p = and_parts (is_decimal d) (list_all is_decimal ds) e in and_from _ _ (decimal_simple d p.0) (decimals_simple ds p.1)

suffix_simple : (w : List ℕ) → is_suffix w ≡ true → list_all is_simple w ≡ true
suffix_simple [] s = refl
suffix_simple (b ∷ []) s = grind (arith, nat_tests)
suffix_simple (b ∷ c ∷ w) s = absurd (cc)

digits_simple : (ds w : List ℕ) → list_all is_decimal ds ≡ true → is_suffix w ≡ true → list_all is_simple (ds ++ w) ≡ true
digits_simple ds w d s = list_all-append is_simple ds w ∙ and_from _ _ (decimals_simple ds d) (suffix_simple w s)

digits_word : (n : ℕ) (ds w : List ℕ) → AreDigitsOf n ds → is_suffix w ≡ true → IsWordText (ds ++ w)
digits_word n ds w are s = simple_word (ds ++ w) (omega (arith, are.some, length-append ds w)) (digits_simple ds w are.digits s)

minus_plain : is_plain 45 ≡ true
unfolding byte_class
minus_plain = refl

pub number_word : (z : ℤ) (w : List ℕ) → unsigned_abs z < 10 ^ 64 → is_suffix w ≡ true → IsWordText (signed_decimal z ++ w)
number_word (pos n) w small s = digits_word n (decimal n) w (decimal_digits n small) s
number_word (negsuc n) w small s = word_cons 45 (decimal (suc n) ++ w) minus_plain (lit< tt) (digits_word (suc n) (decimal (suc n)) w (decimal_digits (suc n) small) s)

pub signed_word : (z : ℤ) → unsigned_abs z < 10 ^ 64 → IsWordText (signed_decimal z)
signed_word z small = subst IsWordText (append-nil (signed_decimal z)) (number_word z [] small refl)

pub decimal_word : (n : ℕ) → n < 10 ^ 64 → IsWordText (decimal n)
decimal_word n small = signed_word (pos n) small

small_decimal : (n : ℕ) → n < 65536 → n < 10 ^ 64
small_decimal n small = omega arith

v_plain : is_plain 118 ≡ true
unfolding byte_class
v_plain = refl

pub register_word : (n : ℕ) → n < 65536 → IsWordText (118 ∷ decimal n)
register_word n small = word_cons 118 (decimal n) v_plain (lit< tt) (decimal_word n (small_decimal n small))

-- ---- a decimal number

-- behind the first digit stands no x
no_x : (ds w : List ℕ) → list_all is_decimal ds ≡ true → is_suffix w ≡ true → begins_with 120 (ds ++ w) ≡ false
no_x [] [] d s = refl
no_x [] (b ∷ []) d s = grind (arith, nat_tests)
no_x [] (b ∷ c ∷ w) d s = absurd (cc)
no_x (b ∷ ds) w d s = let p = (and_parts (is_decimal b) (list_all is_decimal ds) d).0 in other_byte b p
  where
    other_byte : (c : ℕ) → is_decimal c ≡ true → (c == 120) ≡ false
    other_byte c e = grind (arith, nat_tests)

abbrev decimal_number : Bool → List ℕ → List ℕ → Number
decimal_number negative ds w = record { negative = negative; hexadecimal = false; digits = ds; suffix = w }

abbrev by_digits : Bool → List ℕ → List ℕ → Option Number
by_digits negative u digits =
    if nat_lt 0 (length digits) && list_all is_decimal digits then Some (decimal_number negative digits (drop (length digits) u)) else None

unsigned_read : (negative : Bool) (ds w : List ℕ) → 0 < length ds → list_all is_decimal ds ≡ true → is_suffix w ≡ true
    → unsigned_in negative (ds ++ w) ≡ Some (decimal_number negative ds w)
unsigned_read negative [] w some d s = absurd (omega arith)
unsigned_read negative (b ∷ ds) w some d s =
    let u = b ∷ (ds ++ w) in
    let p = and_parts (is_decimal b) (list_all is_decimal ds) d in
    let plain : is_based u ≡ false = and_right (b == 48) (begins_with 120 (ds ++ w)) (no_x ds w p.1 s) in
    let test : (nat_lt 0 (length (b ∷ ds)) && list_all is_decimal (b ∷ ds)) ≡ true = and_from _ _ (lt-ltb 0 (length (b ∷ ds)) some) d in
    ap (λ (h : Bool). digits_in negative h (if h then drop 2 u else u)) plain ∙ ap (by_digits negative u) (found_by false (b ∷ ds) w d s)
    ∙ cond-true _ (Some (decimal_number negative (b ∷ ds) (drop (length (b ∷ ds)) u))) None test
    ∙ ap (λ l. Some (decimal_number negative (b ∷ ds) l)) (drop_at (b ∷ ds) w (length (b ∷ ds)) refl)

no_minus : (ds w : List ℕ) → 0 < length ds → list_all is_decimal ds ≡ true → begins_with 45 (ds ++ w) ≡ false
no_minus [] w some d = absurd (omega arith)
no_minus (b ∷ ds) w some d = let p = (and_parts (is_decimal b) (list_all is_decimal ds) d).0 in other_byte b p
  where
    other_byte : (c : ℕ) → is_decimal c ≡ true → (c == 45) ≡ false
    other_byte c e = grind (arith, nat_tests)

positive_read : (ds w : List ℕ) → 0 < length ds → list_all is_decimal ds ≡ true → is_suffix w ≡ true → number_in (ds ++ w) ≡ Some (decimal_number false ds w)
unfolding number_in
positive_read ds w some d s =
    ap (λ (m : Bool). unsigned_in m (if m then drop 1 (ds ++ w) else ds ++ w)) (no_minus ds w some d) ∙ unsigned_read false ds w some d s

negative_read : (ds w : List ℕ) → 0 < length ds → list_all is_decimal ds ≡ true → is_suffix w ≡ true → number_in (45 ∷ (ds ++ w)) ≡ Some (decimal_number true ds w)
unfolding number_in
negative_read ds w some d s = unsigned_read true ds w some d s

-- ---- numbers

-- the number that a text is read as, which is this one, and fits where so many bits hold it
pub record IsReadAs (text : List ℕ) (z : ℤ) : Type 0 where
  pub number : Number
  pub read : number_in text ≡ Some number
  pub is : signed number ≡ z
  pub fits : (bits : ℕ) → IsSigned bits z → in_bits bits number ≡ Some z

positive_fits : (bits v : ℕ) (ds w : List ℕ) → value_from 10 0 ds ≡ v → v < 2 ^ (bits - 1) → in_bits bits (decimal_number false ds w) ≡ Some (pos v)
positive_fits bits v ds w e h = rw e (grind (arith, nat_tests))

above_negated : (limit v : ℕ) → negated limit ≤ℤ negsuc v → suc v ≤ limit
above_negated zero v h = absurd (omega (arith, ints))
above_negated (suc limit) v h = omega (arith, ints)

negative_fits : (bits v : ℕ) (ds w : List ℕ) → value_from 10 0 ds ≡ suc v → suc v ≤ 2 ^ (bits - 1) → in_bits bits (decimal_number true ds w) ≡ Some (negsuc v)
negative_fits bits v ds w e h = rw e (grind (arith, nat_tests))

pub number_read : (z : ℤ) (w : List ℕ) → unsigned_abs z < 10 ^ 64 → is_suffix w ≡ true → IsReadAs (signed_decimal z ++ w) z
number_read (pos v) w small s =
    let are = decimal_digits v small in
    record {
      number = decimal_number false (decimal v) w;
      read = positive_read (decimal v) w are.some are.digits s;
      is = ap pos are.value;
      fits = λ bits range. positive_fits bits v (decimal v) w are.value (let r = range.1 in omega (arith, ints));
    }
number_read (negsuc v) w small s =
    let are = decimal_digits (suc v) small in
    record {
      number = decimal_number true (decimal (suc v)) w;
      read = negative_read (decimal (suc v)) w are.some are.digits s;
      is = ap negated are.value;
      fits = λ bits range. negative_fits bits v (decimal (suc v)) w are.value (above_negated (2 ^ (bits - 1)) v range.0);
    }

pub signed_read : (z : ℤ) → unsigned_abs z < 10 ^ 64 → IsReadAs (signed_decimal z) z
signed_read z small = subst (λ (l : List ℕ). IsReadAs l z) (append-nil (signed_decimal z)) (number_read z [] small refl)

pub decimal_read : (n : ℕ) → n < 10 ^ 64 → IsReadAs (decimal n) (pos n)
decimal_read n small = signed_read (pos n) small

literal_by : (bits : ℕ) (text : List ℕ) (z : ℤ) → IsReadAs text z → IsSigned bits z → literal_in bits text ≡ Ok z
unfolding literal_in
literal_by bits text z is fits = ap (number_of bits) is.read ∙ ap fitting (is.fits bits fits)

-- a literal of so many bits
pub literal_read : (bits : ℕ) (z : ℤ) (w : List ℕ) → unsigned_abs z < 10 ^ 64 → IsSigned bits z → is_suffix w ≡ true → literal_in bits (signed_decimal z ++ w) ≡ Ok z
literal_read bits z w small fits s = literal_by bits (signed_decimal z ++ w) z (number_read z w small s) fits

pub plain_literal_read : (bits : ℕ) (z : ℤ) → unsigned_abs z < 10 ^ 64 → IsSigned bits z → literal_in bits (signed_decimal z) ≡ Ok z
plain_literal_read bits z small fits = literal_by bits (signed_decimal z) z (signed_read z small) fits

-- ---- registers and labels

pub decimal_found : (n : ℕ) → n < 10 ^ 64 → decimal_in (decimal n) ≡ Some n
decimal_found n small =
    let are = decimal_digits n small in
    cond-true (nat_lt 0 (length (decimal n)) && list_all is_decimal (decimal n)) _ _ (and_from _ _ (lt-ltb 0 (length (decimal n)) are.some) are.digits) ∙ ap Some are.value

pub register_read : (frame : Frame) (n : ℕ) → n < 65536 → register_in frame (118 ∷ decimal n) ≡ Ok n
unfolding register_in
register_read frame n small = ap register_of (decimal_found n (small_decimal n small)) ∙ cond-true (nat_lt n 65536) _ _ (lt-ltb n 65536 small)

pub label_read : (name : List ℕ) → IsTrue (is_name name) → label_in (58 ∷ name) ≡ Ok name
unfolding label_in
label_read name h = cond-true (is_name name) _ _ h
