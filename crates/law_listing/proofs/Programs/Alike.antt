-- The entries of a schedule behind classes are those of a schedule that stands alone.
use Rattle.std.proofs.Common.{◌≡◌, ℕ, zero, suc, ◌-◌, ◌^◌, ◌<◌, ◌≤◌, ◌&&◌, Bool, true, false, cond, ℤ, pos, negsuc, List, [], ◌∷◌, Option, Some, None, Result, Ok, Err, refl, sym, ap, ◌∙◌, subst, arith, lit≤}
use Rattle.std.specs.Prelude.{All, nat_le, nat_lt}
use Rattle.std.specs.List.{list_all}
use Rattle.std.proofs.lemmas.Bool.{and_from, and_parts, cond-true, false≢true, le-leb, leb-true, lt-ltb, ltb-true}
use Rattle.std.proofs.lemmas.List.Elements.{All-head, All-tail}
use Rattle.dv_defs.specs.declared.faults.LineKind.{LineKind}
use Rattle.dv_defs.specs.declared.run.Entry.{Entry}
use Rattle.dv_lex.specs.declared.token.TokenKind.{TokenKind}
use Rattle.dv_lex.specs.declared.token.TokenKind.TheVariants as token
use Rattle.dv_lex.specs.Bytes.{byte_class, is_plain, is_plain_class}
use Rattle.dv_lex.specs.Grammar.{IsLexeme, IsText}
use Rattle.dv_lex.specs.Lexemes.{Lexeme}
use Rattle.dv_lex.specs.Numbers.{Number, IsNumber, in_bits, is_whole, magnitude, negated, signed}
use Rattle.dv_lex.proofs.Spelled.Words.{number_is_word}
use Rattle.dv_log.specs.Reading.{AreEntry, IsField}
use Rattle.dv_coderead.specs.Pieces.{piece_by, piece_of, pieces_of}
use Rattle.dv_coderead.specs.Words.{fitting, literal_in, number_in, number_of}
use Rattle.dv_coderead.proofs.Spelling.{literal_read, spelled}
use Rattle.dv_classread.specs.Schedules.{entry_by, entry_in, field_in, in_range}
use Rattle.law_listing.specs.ProgramLaws.{EntriesAreReadAlike}

-- ---- in 64 bits

negated_is : (m v : ℕ) → negated m ≡ pos v → m ≡ 0
negated_is zero v e = refl
negated_is (suc m) v e = absurd (cc)

-- what is found and isn't negative is the number itself
kept : (negative le lt whole : Bool) (m k v : ℕ) → (whole ≡ true → 0 < k)
    → cond negative (cond le (Some (negated m)) None) (cond lt (Some (pos m)) (cond whole (Some (negated k)) None)) ≡ Some (pos v)
    → cond negative (negated m) (pos m) ≡ pos v
kept true true lt whole m k v some e = cc
kept true false lt whole m k v some e = absurd (cc)
kept false le true whole m k v some e = cc
kept false le false true m k v some e =
    let is : negated k ≡ pos v = cc in
    let none = negated_is k v is in
    let more = some refl in
    absurd (omega arith)
kept false le false false m k v some e = absurd (cc)

signed_is : (n : Number) (v : ℕ) → in_bits 64 n ≡ Some (pos v) → signed n ≡ pos v
signed_is n v e =
    kept n.negative (nat_le (magnitude n) (2 ^ 63)) (nat_lt (magnitude n) (2 ^ 63)) (n.hexadecimal && is_whole 64 && nat_lt (magnitude n) (2 ^ 64)) (magnitude n) (2 ^ 64 - magnitude n) v
    (λ is. let lt = ltb-true (magnitude n) (2 ^ 64) (and_parts (n.hexadecimal && is_whole 64) (nat_lt (magnitude n) (2 ^ 64)) is).1 in omega arith) e

-- and a small number is found
found_by : (negative le lt whole : Bool) (m k v : ℕ) → (m ≡ 0 → le ≡ true) → (m ≡ v → lt ≡ true) → cond negative (negated m) (pos m) ≡ pos v
    → cond negative (cond le (Some (negated m)) None) (cond lt (Some (pos m)) (cond whole (Some (negated k)) None)) ≡ Some (pos v)
found_by true true lt whole m k v low few e = ap Some e
found_by true false lt whole m k v low few e = absurd (false≢true (low (negated_is m v e)))
found_by false le true whole m k v low few e = ap Some e
found_by false le false whole m k v low few e = let same : m ≡ v = cc in absurd (false≢true (few same))

found : (n : Number) (v : ℕ) → v ≤ 256 → signed n ≡ pos v → in_bits 64 n ≡ Some (pos v)
found n v small e =
    found_by n.negative (nat_le (magnitude n) (2 ^ 63)) (nat_lt (magnitude n) (2 ^ 63)) (n.hexadecimal && is_whole 64 && nat_lt (magnitude n) (2 ^ 64)) (magnitude n) (2 ^ 64 - magnitude n) v
    (λ (is : magnitude n ≡ 0). le-leb (magnitude n) (2 ^ 63) (omega (arith, is))) (λ (is : magnitude n ≡ v). lt-ltb (magnitude n) (2 ^ 63) (omega (arith, is))) e

-- ---- a field

chosen : (t : Bool) (n v : ℕ) → cond t (Some n) None ≡ Some v → (t ≡ true) × (n ≡ v)
chosen true n v e = (refl, cc)
chosen false n v e = absurd (cc)

range_is : (low high v : ℕ) (r : Result ℤ LineKind) → in_range low high r ≡ Some v → (r ≡ Ok (pos v)) × (low ≤ v) × (v ≤ high)
range_is low high v (Ok (pos n)) e =
    let c = chosen (nat_le low n && nat_le n high) n v e in
    let p = and_parts (nat_le low n) (nat_le n high) c.0 in
    let least = leb-true low n p.0 in
    let most = leb-true n high p.1 in
    let same = c.1 in
    (ap (λ k. Ok (pos k)) same, omega arith, omega arith)
range_is low high v (Ok (negsuc n)) e = absurd (cc)
range_is low high v (Err k) e = absurd (cc)

fitting_is : (o : Option ℤ) (z : ℤ) → fitting o ≡ Ok z → o ≡ Some z
fitting_is None z e = absurd (cc)
fitting_is (Some y) z e = cc

number_is : (o : Option Number) (z : ℤ) → number_of 64 o ≡ Ok z → (n : Number) × (o ≡ Some n) × (in_bits 64 n ≡ Some z)
number_is None z e = absurd (cc)
number_is (Some n) z e = (n, refl, fitting_is (in_bits 64 n) z e)

literal_is : (w : List ℕ) (z : ℤ) → literal_in 64 w ≡ Ok z → (n : Number) × (number_in w ≡ Some n) × (in_bits 64 n ≡ Some z)
unfolding literal_in
literal_is w z e = number_is (number_in w) z e

field_to : (low high v : ℕ) (t : Lexeme) (k : TokenKind) → field_in low high (piece_by k t.text) ≡ Some v → IsField low high t v
field_to low high v t token.Word e =
    let r = range_is low high v (literal_in 64 t.text) e in
    let n = literal_is t.text (pos v) r.0 in
    record { number = n.0; spells = spelled t.text n.0 n.1; means = (signed_is n.0 v n.2, r.1, r.2) }
field_to low high v t token.Mark e = absurd (cc)
field_to low high v t token.Str e = absurd (cc)
field_to low high v t token.Char e = absurd (cc)

-- a token that spells a number is a word
mark_spells_none : (w : List ℕ) → IsText token.Mark w → IsNumber w → ⊥
mark_spells_none w (b, is) n =
    let plain : list_all is_plain (b ∷ []) ≡ true = ap (list_all is_plain) (sym is.0) ∙ (number_is_word w n).1 in
    let p = (and_parts (is_plain b) true plain).0 in
    false≢true (ap is_plain_class (sym is.1) ∙ p)

string_spells_none : (w : List ℕ) → IsText token.Str w → IsNumber w → ⊥
unfolding byte_class
string_spells_none w (units, is) n =
    let plain : list_all is_plain w ≡ true = (number_is_word w n).1 in
    false≢true (ap (list_all is_plain) (sym is.quoted) ∙ plain)

character_spells_none : (w : List ℕ) → IsText token.Char w → IsNumber w → ⊥
unfolding byte_class
character_spells_none w (unit, is) n =
    let plain : list_all is_plain w ≡ true = (number_is_word w n).1 in
    false≢true (ap (list_all is_plain) (sym is.quoted) ∙ plain)

field_from : (low high v : ℕ) (t : Lexeme) (k : TokenKind) → high ≤ 256 → IsText k t.text → IsField low high t v → field_in low high (piece_by k t.text) ≡ Some v
field_from low high v t token.Word few text f =
    let is = f.means in
    ap (in_range low high) (literal_read 64 t.text f.number f.spells ∙ ap fitting (found f.number v (omega arith) is.0))
    ∙ cond-true (nat_le low v && nat_le v high) _ _ (and_from _ _ (le-leb low v is.1) (le-leb v high is.2))
field_from low high v t token.Mark few text f = absurd (mark_spells_none t.text text (f.number, f.spells))
field_from low high v t token.Str few text f = absurd (string_spells_none t.text text (f.number, f.spells))
field_from low high v t token.Char few text f = absurd (character_spells_none t.text text (f.number, f.spells))

-- ---- an entry

three_read : (a b c : Lexeme) (e : Entry) → IsLexeme a → IsLexeme b → IsLexeme c → IsField 0 7 a e.worker → IsField 0 63 b e.thread → IsField 1 256 c e.steps
    → entry_in (pieces_of (a ∷ b ∷ c ∷ [])) ≡ Ok e
unfolding entry_in
three_read a b c e first second third worker thread steps =
    rw (field_from 0 7 e.worker a a.kind (lit≤ tt) first.of_kind worker, field_from 0 63 e.thread b b.kind (lit≤ tt) second.of_kind thread, field_from 1 256 e.steps c c.kind (lit≤ tt) third.of_kind steps) refl

entry_from : (ts : List Lexeme) (e : Entry) → All IsLexeme ts → AreEntry ts e → entry_in (pieces_of ts) ≡ Ok e
entry_from ts e all a =
    let are = subst (All IsLexeme) a.three all in
    let more = All-tail IsLexeme a.first (a.second ∷ a.third ∷ []) are in
    let last = All-tail IsLexeme a.second (a.third ∷ []) more in
    ap (λ us. entry_in (pieces_of us)) a.three
    ∙ three_read a.first a.second a.third e (All-head IsLexeme a.first (a.second ∷ a.third ∷ []) are) (All-head IsLexeme a.second (a.third ∷ []) more) (All-head IsLexeme a.third [] last) a.worker a.thread a.steps

entry_parts : (w t s : Option ℕ) (e : Entry) → entry_by w t s ≡ Ok e → (w ≡ Some e.worker) × (t ≡ Some e.thread) × (s ≡ Some e.steps)
entry_parts None t s e h = absurd (cc)
entry_parts (Some w) None s e h = absurd (cc)
entry_parts (Some w) (Some t) None e h = absurd (cc)
entry_parts (Some w) (Some t) (Some s) e h =
    let own : Entry = record { worker = w; thread = t; steps = s } in
    let same : own ≡ e = cc in
    (ap (λ (x : Entry). Some x.worker) same, ap (λ (x : Entry). Some x.thread) same, ap (λ (x : Entry). Some x.steps) same)

entry_to : (ts : List Lexeme) (e : Entry) → entry_in (pieces_of ts) ≡ Ok e → AreEntry ts e
unfolding entry_in
entry_to [] e h = absurd (cc)
entry_to (a ∷ []) e h = absurd (cc)
entry_to (a ∷ b ∷ []) e h = absurd (cc)
entry_to (a ∷ b ∷ c ∷ []) e h =
    let p = entry_parts (field_in 0 7 (piece_of a)) (field_in 0 63 (piece_of b)) (field_in 1 256 (piece_of c)) e h in
    record {
      first = a;
      second = b;
      third = c;
      three = refl;
      worker = field_to 0 7 e.worker a a.kind p.0;
      thread = field_to 0 63 e.thread b b.kind p.1;
      steps = field_to 1 256 e.steps c c.kind p.2;
    }
entry_to (a ∷ b ∷ c ∷ d ∷ ts) e h = absurd (cc)

pub entries_alike : EntriesAreReadAlike
entries_alike ts e all = (λ a. entry_from ts e all a, λ h. entry_to ts e h)
