-- What is read of a line is what it holds: the line splits, or reading refuses it.
use Rattle.std.proofs.Common.{◌≡◌, ℕ, zero, suc, ◌+◌, ◌<◌, ◌≤◌, ◌⊎◌, true, false, eqb, List, [], ◌∷◌, ◌++◌, length, Ok, Err, refl, sym, ap, ◌∙◌, subst, append_assoc, arith, inl, inr, lit<, length-append, ne_eqb, eqb-true}
use Rattle.std.specs.Char.{encode_utf8}
use Rattle.std.specs.Char.Escape.{encode_utf16}
use Rattle.std.specs.Str.{IsUtf8, is_utf8}
use Rattle.std.specs.List.{list_all}
use Rattle.std.proofs.lemmas.Bool.{cases_lt, cases_eq, cases_Bool, and_from}
use Rattle.std.proofs.lemmas.Bool.Decides.{nat_tests}
use Rattle.std.proofs.lemmas.Str.{IsUtf8-from_is_utf8, byte_from_char}
use Rattle.dv_defs.specs.declared.faults.LineKind.{LineKind}
use Rattle.dv_defs.specs.declared.faults.LineKind.TheVariants.{BadToken, BadEscape}
use Rattle.dv_lex.specs.declared.bytes.Class.{Class}
use Rattle.dv_lex.specs.declared.bytes.Class.TheVariants as class
use Rattle.dv_lex.specs.declared.token.TokenKind.TheVariants.{Str, Char, Word}
use Rattle.dv_lex.specs.Bytes.{byte_class, is_plain, is_control, is_short, is_escape, begins_with_four}
use Rattle.dv_lex.specs.Lexemes.{Lexeme, Lexemes, lexemes, put, glue, begins_plain, a_mark, Outside, In}
use Rattle.dv_lex.specs.Literals.{short_unit, four_value, IsString, IsCharacter, Writes, Nothing, One, Short, Unicode}
use Rattle.dv_lex.specs.Grammar.{Holds, Empty, Comment, Gap, OneMark, AWord, AString, ACharacter}
use Rattle.dv_lex.proofs.Steps.{lexeme, in_nothing, in_bad, in_control, outside_quote, outside_blank, outside_hash, outside_mark, outside_control, outside_nothing}
use Rattle.dv_lex.proofs.Grammar.Written.{Counts, high_control, character_counts, short_counts, unicode_counts}
use Rattle.dv_lex.proofs.Grammar.Only.{a_word, a_literal, a_string, a_character, double_is, single_is}
use Rattle.dv_lex.proofs.Grammar.Utf8.{First, first, rest_shorter, past_ascii, other_small, word_parts, short_small, four_small}

-- ---- literals

-- what is behind an opening quote, up to the last quote
record Closed (q : ℕ) (bs : List ℕ) : Type 0 where
  units : List ℕ
  inner : List ℕ
  rest : List ℕ
  split : bs ≡ inner ++ q ∷ rest
  writes : Writes q units inner
  utf8 : IsUtf8 rest

-- it is refused, wherever it stands
record Refused (q : ℕ) (bs : List ℕ) : Type 0 where
  kind : LineKind
  refused : (at n : ℕ) → lexemes at (In q 0 n) bs ≡ Err kind

abbrev Ends : ℕ → List ℕ → Type 0
Ends q bs = Closed q bs ⊎ Refused q bs

-- some bytes that count for some units, before the rest
longer : (q k : ℕ) (us w bs : List ℕ) → Counts q k w → ((vs inner : List ℕ) → Writes q vs inner → Writes q (us ++ vs) (w ++ inner)) → Ends q bs → Ends q (w ++ bs)
longer q k us w bs counts writes (inl x) = inl (record {
  units = us ++ x.units;
  inner = w ++ x.inner;
  rest = x.rest;
  split = ap (λ (ys : List ℕ). w ++ ys) x.split ∙ sym (append_assoc w x.inner (q ∷ x.rest));
  writes = writes x.units x.inner x.writes;
  utf8 = x.utf8;
})
longer q k us w bs counts writes (inr y) = inr (record { kind = y.kind; refused = λ (at n : ℕ). counts at n bs ∙ ap (glue at w) (y.refused (at + length w) (n + k)) })

-- how a character is tested, by its first byte
record Stands (q c : ℕ) : Type 0 where
  other : eqb c q ≡ false
  printed : is_control c ≡ false
  no_slash : eqb c 92 ≡ false

stands : (q b c : ℕ) (bs rest : List ℕ) → q < 92 → eqb b q ≡ false → is_control b ≡ false → eqb b 92 ≡ false → b ∷ bs ≡ encode_utf8 c ++ rest → Stands q c
stands q b c bs rest low e f g split =
    elim (cases_lt c 128) [
      | inl lt ↦ let same : b ≡ c = byte_from_char (b ∷ bs) rest c split lt in
          subst (Stands q) same (record { other = e; printed = f; no_slash = g })
      | inr le ↦ record {
        other = ne_eqb c q (λ (z : c ≡ q). omega (arith, z, low, le));
        printed = high_control c le;
        no_slash = ne_eqb c 92 (λ (z : c ≡ 92). omega (arith, z, le));
      }
    ]

-- a character that stands for itself
by_character : (q b : ℕ) (bs : List ℕ) → q < 92 → eqb b q ≡ false → is_control b ≡ false → eqb b 92 ≡ false → (x : First (b ∷ bs)) → Ends q x.rest → Ends q (b ∷ bs)
by_character q b bs low e f g x ends =
    let c = x.char in
    let s = stands q b c bs x.rest low e f g x.split in
    rw x.split (longer q (length (encode_utf16 c)) (encode_utf16 c) (encode_utf8 c) x.rest (character_counts q c low s.other s.printed s.no_slash)
    (λ (vs inner : List ℕ) (h : Writes q vs inner). One c vs inner x.scalar s.other s.printed s.no_slash h) ends)

-- a text of at most so many bytes ends or is refused
abbrev AllEnd : ℕ → ℕ → Type 0
AllEnd q n = (bs : List ℕ) → length bs ≤ n → IsUtf8 bs → Ends q bs

by_unicode : (q n : ℕ) (ds : List ℕ) → q < 92 → length ds ≤ n → IsUtf8 ds → begins_with_four ds ≡ true → AllEnd q n → Ends q (92 ∷ 117 ∷ ds)
by_unicode q n [] low le u e rec = absurd cc
by_unicode q n (a ∷ []) low le u e rec = absurd cc
by_unicode q n (a ∷ b ∷ []) low le u e rec = absurd cc
by_unicode q n (a ∷ b ∷ c ∷ []) low le u e rec = absurd cc
by_unicode q n (a ∷ b ∷ c ∷ d ∷ es) low le u e rec =
    let s = four_small a b c d es e in
    let text = past_ascii d es s.fourth (past_ascii c (d ∷ es) s.third (past_ascii b (c ∷ d ∷ es) s.second (past_ascii a (b ∷ c ∷ d ∷ es) s.first u))) in
    longer q 1 (four_value a b c d ∷ []) (92 ∷ 117 ∷ a ∷ b ∷ c ∷ d ∷ []) es (unicode_counts q a b c d es low e)
    (λ (vs inner : List ℕ) (h : Writes q vs inner). Unicode a b c d vs inner e h) (rec es (omega arith) text)

short_of : (b : ℕ) (bs : List ℕ) → eqb b 117 ≡ false → is_escape (b ∷ bs) ≡ true → is_short b ≡ true
unfolding is_escape
short_of b bs e h = rw e at h

unicode_of : (bs : List ℕ) → is_escape (117 ∷ bs) ≡ true → begins_with_four bs ≡ true
unfolding is_escape
unicode_of bs e = e

no_escape : is_escape [] ≡ false
unfolding is_escape
no_escape = refl

by_escape : (q n : ℕ) (bs : List ℕ) → q < 92 → length bs ≤ n → IsUtf8 bs → is_escape bs ≡ true → AllEnd q n → Ends q (92 ∷ bs)
by_escape q n [] low le u e rec = absurd (let both : false ≡ true = sym no_escape ∙ e in cc)
by_escape q n (b ∷ bs) low le u e rec =
    elim (cases_Bool (eqb b 117)) [
      | inl t ↦
          let is : b ≡ 117 = eqb-true b 117 t in
          let all = subst (λ (x : ℕ). (length (x ∷ bs) ≤ n) × IsUtf8 (x ∷ bs) × (is_escape (x ∷ bs) ≡ true)) is (le, u, e) in
          rw is (by_unicode q n bs low (omega arith) (past_ascii 117 bs (lit< tt) all.1) (unicode_of bs all.2) rec)
      | inr f ↦
          let short = short_of b bs f e in
          longer q 1 (short_unit b ∷ []) (92 ∷ b ∷ []) bs (short_counts q b low f short)
          (λ (vs inner : List ℕ) (h : Writes q vs inner). Short b vs inner f short h) (rec bs (omega arith) (past_ascii b bs (short_small b short) u))
    ]

-- What is behind an opening quote ends somewhere, or is refused.
literal : (n q : ℕ) → q < 92 → AllEnd q n
literal n q low [] le u = inr (record { kind = BadToken; refused = λ (at k : ℕ). in_nothing at q 0 k })
literal zero q low (b ∷ bs) le u = absurd (omega arith)
literal (suc n) q low (b ∷ bs) le u =
    elim (cases_Bool (eqb b q)) [
      | inl t ↦
          let is : b ≡ q = eqb-true b q t in
          inl (record { units = []; inner = []; rest = bs; split = ap (λ (x : ℕ). x ∷ bs) is; writes = Nothing; utf8 = past_ascii b bs (omega arith) u })
      | inr f ↦ elim (cases_Bool (is_control b)) [
        | inl t ↦ inr (record { kind = BadToken; refused = λ (at k : ℕ). in_control at q k b bs f t })
        | inr g ↦ elim (cases_Bool (eqb b 92)) [
          | inl s ↦ elim (cases_Bool (is_escape bs)) [
            | inl t ↦
                let is : b ≡ 92 = eqb-true b 92 s in
                rw is (by_escape q n bs low (omega arith) (past_ascii b bs (omega arith) u) t (literal n q low))
            | inr t ↦ inr (record { kind = BadEscape; refused = λ (at k : ℕ). in_bad at q k b bs f g s t })
          ]
          | inr s ↦
              let x = first b bs u in
              let shorter : length x.rest ≤ n = rest_shorter (b ∷ bs) x.rest x.char n x.split (omega arith) in
              by_character q b bs low f g s x (literal n q low x.rest shorter x.utf8)
        ]
      ]
    ]

-- ---- lines

-- a line of at most so many bytes
abbrev Found : ℕ → Type 0
Found n = (at : ℕ) (line : List ℕ) (ls : List Lexeme) → length line ≤ n → IsUtf8 line → lexemes at Outside line ≡ Ok ls → Holds at line ls

abbrev good : List Lexeme → Lexemes
good ls = Ok ls

good_is : (ls ms : List Lexeme) → good ls ≡ good ms → ls ≡ ms
good_is ls ms e = cc

-- what is read with a lexeme in front
record Put (l : Lexeme) (r : Lexemes) (ls : List Lexeme) : Type 0 where
  more : List Lexeme
  read : r ≡ Ok more
  all : l ∷ more ≡ ls

put_is : (l : Lexeme) (r : Lexemes) (ls : List Lexeme) → put l r ≡ Ok ls → Put l r ls
put_is l (Ok ms) ls e = record { more = ms; read = refl; all = good_is (l ∷ ms) ls e }
put_is l (Err k) ls e = absurd cc

-- the longest front of plain bytes
record Front (bs : List ℕ) : Type 0 where
  word : List ℕ
  rest : List ℕ
  split : bs ≡ word ++ rest
  plain : list_all is_plain word ≡ true
  ends : begins_plain rest ≡ false

front : (bs : List ℕ) → Front bs
front [] = record { word = []; rest = []; split = refl; plain = refl; ends = refl }
front (b ∷ bs) =
    elim (cases_Bool (is_plain b)) [
      | inl t ↦
          let f = front bs in
          record { word = b ∷ f.word; rest = f.rest; split = ap (λ (x : List ℕ). b ∷ x) f.split; plain = and_from (is_plain b) (list_all is_plain f.word) t f.plain; ends = f.ends }
      | inr f ↦ record { word = []; rest = b ∷ bs; split = refl; plain = refl; ends = f }
    ]

worded : (n at b : ℕ) (bs : List ℕ) (ls : List Lexeme) → is_plain b ≡ true → length bs ≤ n → IsUtf8 (b ∷ bs) → Found n → lexemes at Outside (b ∷ bs) ≡ Ok ls → Holds at (b ∷ bs) ls
worded n at b bs ls c le u rec e =
    let f = front bs in
    let w = b ∷ f.word in
    let whole : b ∷ bs ≡ w ++ f.rest = ap (λ (x : List ℕ). b ∷ x) f.split in
    let some : 0 < length w = omega arith in
    let plain : list_all is_plain w ≡ true = and_from (is_plain b) (list_all is_plain f.word) c f.plain in
    let small : length f.rest ≤ n = omega (arith, ap length f.split, length-append f.word f.rest, le) in
    let text = word_parts w f.rest f.ends (rw whole at u) in
    let p = put_is (lexeme Word at w) (lexemes (at + length w) Outside f.rest) ls (sym (a_word at w f.rest some plain f.ends) ∙ ap (lexemes at Outside) (sym whole) ∙ e) in
    rw (whole, ← p.all) (AWord at w f.rest p.more some plain f.ends (rec (at + length w) f.rest p.more small text.1 p.read))

quote_cases : (b : ℕ) → byte_class b ≡ class.Quote → (b ≡ 34) ⊎ (b ≡ 39)
unfolding byte_class
quote_cases b e = elim (cases_eq b 34) [
  | inl x ↦ inl x
  | inr f ↦ elim (cases_eq b 39) [ inl x ↦ inr x | inr g ↦ absurd (grind (arith, nat_tests)) ]
]

one_of : (us : List ℕ) → length us ≡ 1 → (unit : ℕ) × (us ≡ unit ∷ [])
one_of [] e = absurd (omega arith)
one_of (u ∷ []) e = (u, refl)
one_of (u ∷ v ∷ us) e = absurd (omega arith)

after_shorter : (q n : ℕ) (bs inner rest : List ℕ) → bs ≡ inner ++ q ∷ rest → length bs ≤ n → length rest ≤ n
after_shorter q n bs inner rest split le = omega (arith, ap length split, length-append inner (q ∷ rest), le)

-- a line that begins with a literal
begins_with : (q : ℕ) (bs inner rest : List ℕ) → bs ≡ inner ++ q ∷ rest → q ∷ bs ≡ (q ∷ (inner ++ q ∷ [])) ++ rest
begins_with q bs inner rest split = ap (λ (x : List ℕ). q ∷ x) (split ∙ sym (append_assoc inner (q ∷ []) rest))

in_double : (n at : ℕ) (bs : List ℕ) (ls : List Lexeme) → length bs ≤ n → Found n → Closed 34 bs → lexemes at Outside (34 ∷ bs) ≡ Ok ls → Holds at (34 ∷ bs) ls
in_double n at bs ls le rec x e =
    let w = 34 ∷ (x.inner ++ 34 ∷ []) in
    let whole = begins_with 34 bs x.inner x.rest x.split in
    let is : IsString x.units w = record { inner = x.inner; quoted = refl; writes = x.writes } in
    let p = put_is (lexeme Str at w) (lexemes (at + length w) Outside x.rest) ls (sym (a_string at x.units w x.rest is) ∙ ap (lexemes at Outside) (sym whole) ∙ e) in
    rw (whole, ← p.all) (AString at x.units w x.rest p.more is (rec (at + length w) x.rest p.more (after_shorter 34 n bs x.inner x.rest x.split le) x.utf8 p.read))

with_one_unit : (n at unit : ℕ) (bs : List ℕ) (ls : List Lexeme) → length bs ≤ n → Found n → (x : Closed 39 bs) → x.units ≡ unit ∷ [] → lexemes at Outside (39 ∷ bs) ≡ Ok ls → Holds at (39 ∷ bs) ls
with_one_unit n at unit bs ls le rec x one e =
    let w = 39 ∷ (x.inner ++ 39 ∷ []) in
    let whole = begins_with 39 bs x.inner x.rest x.split in
    let is : IsCharacter unit w = record { inner = x.inner; quoted = refl; writes = subst (λ (us : List ℕ). Writes 39 us x.inner) one x.writes } in
    let p = put_is (lexeme Char at w) (lexemes (at + length w) Outside x.rest) ls (sym (a_character at unit w x.rest is) ∙ ap (lexemes at Outside) (sym whole) ∙ e) in
    rw (whole, ← p.all) (ACharacter at unit w x.rest p.more is (rec (at + length w) x.rest p.more (after_shorter 39 n bs x.inner x.rest x.split le) x.utf8 p.read))

-- a character literal with another number of units is refused
lacks : (at : ℕ) (bs : List ℕ) → (x : Closed 39 bs) → eqb (length x.units) 1 ≡ false → lexemes at Outside (39 ∷ bs) ≡ Err BadToken
lacks at bs x other =
    ap (λ (ys : List ℕ). lexemes at Outside (39 ∷ ys)) x.split ∙ a_literal at 39 x.units x.inner x.rest single_is (lit< tt) x.writes ∙ rw other refl

never : (at : ℕ) (line : List ℕ) (ls : List Lexeme) (k : LineKind) → lexemes at Outside line ≡ Err k → lexemes at Outside line ≡ Ok ls → ⊥
never at line ls k f e = let both : Err k ≡ good ls = sym f ∙ e in cc

in_single : (n at : ℕ) (bs : List ℕ) (ls : List Lexeme) → length bs ≤ n → Found n → Closed 39 bs → lexemes at Outside (39 ∷ bs) ≡ Ok ls → Holds at (39 ∷ bs) ls
in_single n at bs ls le rec x e =
    elim (cases_Bool (eqb (length x.units) 1)) [
      | inl t ↦ let one = one_of x.units (eqb-true (length x.units) 1 t) in with_one_unit n at one.0 bs ls le rec x one.1 e
      | inr f ↦ absurd (never at (39 ∷ bs) ls BadToken (lacks at bs x f) e)
    ]

refuses : (at b : ℕ) (bs : List ℕ) → byte_class b ≡ class.Quote → (y : Refused b bs) → lexemes at Outside (b ∷ bs) ≡ Err y.kind
refuses at b bs c y = outside_quote at b bs c ∙ ap (glue at (b ∷ [])) (y.refused (at + 1) 0)

-- what stands in the quotes that begin with this byte
quoted : (n at q : ℕ) (bs : List ℕ) (ls : List Lexeme) → byte_class q ≡ class.Quote → q < 92
    → (Closed q bs → lexemes at Outside (q ∷ bs) ≡ Ok ls → Holds at (q ∷ bs) ls) → length bs ≤ n → IsUtf8 (q ∷ bs) → lexemes at Outside (q ∷ bs) ≡ Ok ls → Holds at (q ∷ bs) ls
quoted n at q bs ls c low closed le u e =
    elim (literal n q low bs le (past_ascii q bs (omega arith) u)) [
      | inl x ↦ closed x e
      | inr y ↦ absurd (never at (q ∷ bs) ls y.kind (refuses at q bs c y) e)
    ]

by_quote : (n at b : ℕ) (bs : List ℕ) (ls : List Lexeme) → byte_class b ≡ class.Quote → length bs ≤ n → IsUtf8 (b ∷ bs) → Found n → lexemes at Outside (b ∷ bs) ≡ Ok ls → Holds at (b ∷ bs) ls
by_quote n at b bs ls c le u rec e =
    elim (quote_cases b c) [
      | inl is ↦ let all = subst (λ (x : ℕ). IsUtf8 (x ∷ bs) × (lexemes at Outside (x ∷ bs) ≡ Ok ls)) is (u, e) in
          rw is (quoted n at 34 bs ls double_is (lit< tt) (in_double n at bs ls le rec) le all.0 all.1)
      | inr is ↦ let all = subst (λ (x : ℕ). IsUtf8 (x ∷ bs) × (lexemes at Outside (x ∷ bs) ≡ Ok ls)) is (u, e) in
          rw is (quoted n at 39 bs ls single_is (lit< tt) (in_single n at bs ls le rec) le all.0 all.1)
    ]

-- a line by what its first byte is
by_class : (n at : ℕ) (k : Class) (b : ℕ) (bs : List ℕ) (ls : List Lexeme) → byte_class b ≡ k → length bs ≤ n → IsUtf8 (b ∷ bs) → Found n
    → lexemes at Outside (b ∷ bs) ≡ Ok ls → Holds at (b ∷ bs) ls
by_class n at class.Blank b bs ls c le u rec e = Gap at b bs ls c (rec (at + 1) bs ls le (past_ascii b bs (other_small b (rw c refl)) u) (sym (outside_blank at b bs c) ∙ e))
by_class n at class.Hash b bs ls c le u rec e = rw (← good_is [] ls (sym (outside_hash at b bs c) ∙ e)) (Comment at b bs c)
by_class n at class.Mark b bs ls c le u rec e =
    let p = put_is (a_mark at b) (lexemes (at + 1) Outside bs) ls (sym (outside_mark at b bs c) ∙ e) in
    rw (← p.all) (OneMark at b bs p.more c (rec (at + 1) bs p.more le (past_ascii b bs (other_small b (rw c refl)) u) p.read))
by_class n at class.Quote b bs ls c le u rec e = by_quote n at b bs ls c le u rec e
by_class n at class.Control b bs ls c le u rec e = absurd (never at (b ∷ bs) ls BadToken (outside_control at b bs c) e)
by_class n at class.Plain b bs ls c le u rec e = worded n at b bs ls (rw c refl) le u rec e

found_below : (n : ℕ) → Found n
found_below n at [] ls le u e = rw (← good_is [] ls (sym (outside_nothing at) ∙ e)) (Empty at)
found_below zero at (b ∷ bs) ls le u e = absurd (omega arith)
found_below (suc n) at (b ∷ bs) ls le u e = by_class n at (byte_class b) b bs ls refl (omega arith) u (found_below n) e

-- What is read of a line is what it holds.
pub found : (at : ℕ) (line : List ℕ) (ls : List Lexeme) → is_utf8 line ≡ true → lexemes at Outside line ≡ Ok ls → Holds at line ls
found at line ls u e = found_below (length line) at line ls (omega arith) (IsUtf8-from_is_utf8 line u) e
