-- What stands between the quotes of a literal, read from its front.
use Rattle.std.proofs.Common.{◌≡◌, ℕ, ◌==◌, true, false, List, [], ◌∷◌, ◌++◌, length, take, drop, ◌-◌, encode_utf8, refl, sym, ap, ◌∙◌, subst, arith, append_assoc, append-nil, length-append}
use Rattle.std.specs.Char.Escape.{encode_utf16}
use Rattle.std.proofs.lemmas.Bool.{eq-eqb}
use Rattle.std.proofs.Math.Seq.{take-append_seam}
use Rattle.std.proofs.lemmas.Str.{encode_ascii, encode_same, length-encode, len_utf8_bounds}
use Rattle.dv_lex.specs.Bytes.{is_escape, escape_length}
use Rattle.dv_lex.specs.Literals.{Writes, Nothing, One, Short, Unicode, IsLiteral, IsString, escape_unit, four_value, short_unit}

-- a character at the front
abbrev pub Raw : ℕ → ℕ → List ℕ → List ℕ → Type 0
Raw q c us bs = (more : List ℕ) × (us ≡ encode_utf16 c ++ more) × Writes q more bs

-- an escape at the front, behind its backslash
pub record Escaped (q : ℕ) (us bs : List ℕ) : Type 0 where
  pub is : is_escape bs ≡ true
  pub more : List ℕ
  pub units : us ≡ escape_unit bs ∷ more
  pub behind : Writes q more (drop (escape_length bs) bs)

-- a character is at least a byte
no_character : (c : ℕ) (bs : List ℕ) → encode_utf8 c ++ bs ≡ [] → ⊥
no_character c bs e = omega (arith, ap length e, length-append (encode_utf8 c) bs, length-encode c, (len_utf8_bounds c).0)

-- a character of which the first byte is a backslash
backslash : (c : ℕ) (ds bs : List ℕ) → encode_utf8 c ++ ds ≡ 92 ∷ bs → c ≡ 92
backslash c ds bs e = (encode_same c 92 ds bs (e ∙ ap (λ l. l ++ bs) (sym (encode_ascii 92 (omega arith))))).0

no_backslash : (c : ℕ) (ds bs : List ℕ) → (c == 92) ≡ false → encode_utf8 c ++ ds ≡ 92 ∷ bs → ⊥
no_backslash c ds bs apart e = let is = eq-eqb c 92 (backslash c ds bs e) in absurd (cc)

ended_by : {q : ℕ} {us ds : List ℕ} → Writes q us ds → ds ≡ [] → us ≡ []
ended_by Nothing e = refl
ended_by (One c us ds scalar no_quote no_control no_slash w) e = absurd (no_character c ds e)
ended_by (Short b us ds no_u is w) e = absurd (cc)
ended_by (Unicode a b c d us ds four w) e = absurd (cc)

-- no bytes mean no units
pub ended : {q : ℕ} {us : List ℕ} → Writes q us [] → us ≡ []
ended w = ended_by w refl

pub nothing_left : {q : ℕ} {us bs : List ℕ} → Writes q us bs → length bs ≡ 0 → us ≡ []
nothing_left {bs = []} w none = ended w
nothing_left {bs = b ∷ bs} w none = absurd (omega arith)

raw_by : {q : ℕ} {us ds : List ℕ} (c : ℕ) (bs : List ℕ) → (c == 92) ≡ false → Writes q us ds → ds ≡ encode_utf8 c ++ bs → Raw q c us bs
raw_by c bs apart Nothing e = absurd (no_character c bs (sym e))
raw_by {q} c bs apart (One d us ds scalar no_quote no_control no_slash w) e =
    let same = encode_same d c ds bs e in
    (us, ap (λ x. encode_utf16 x ++ us) same.0, subst (Writes q us) same.1 w)
raw_by c bs apart (Short b us ds no_u is w) e = absurd (no_backslash c bs (b ∷ ds) apart (sym e))
raw_by c bs apart (Unicode x y z t us ds four w) e = absurd (no_backslash c bs (117 ∷ x ∷ y ∷ z ∷ t ∷ ds) apart (sym e))

-- a character other than a backslash stands for itself
pub raw : {q : ℕ} {us : List ℕ} (c : ℕ) (bs : List ℕ) → (c == 92) ≡ false → Writes q us (encode_utf8 c ++ bs) → Raw q c us bs
raw c bs apart w = raw_by c bs apart w refl

escaped_by : {q : ℕ} {us ds : List ℕ} (bs : List ℕ) → Writes q us ds → ds ≡ 92 ∷ bs → Escaped q us bs
unfolding is_escape
escaped_by bs Nothing e = absurd (cc)
escaped_by bs (One c us ds scalar no_quote no_control no_slash w) e = absurd (no_backslash c ds bs no_slash e)
escaped_by {q} bs (Short b us ds no_u is w) e =
    let same : b ∷ ds ≡ bs = cc in
    let unit : short_unit b ∷ us ≡ escape_unit (b ∷ ds) ∷ us = rw no_u refl in
    let behind : Writes q us (drop (escape_length (b ∷ ds)) (b ∷ ds)) = rw no_u w in
    let here : is_escape (b ∷ ds) ≡ true = rw no_u is in
    let one : Escaped q (short_unit b ∷ us) (b ∷ ds) = record { is = here; more = us; units = unit; behind = behind } in
    subst (Escaped q (short_unit b ∷ us)) same one
escaped_by {q} bs (Unicode x y z t us ds four w) e =
    let same : 117 ∷ x ∷ y ∷ z ∷ t ∷ ds ≡ bs = cc in
    let one : Escaped q (four_value x y z t ∷ us) (117 ∷ x ∷ y ∷ z ∷ t ∷ ds) = record { is = four; more = us; units = refl; behind = w } in
    subst (Escaped q (four_value x y z t ∷ us)) same one

-- behind a backslash stands an escape
pub escaped : {q : ℕ} {us : List ℕ} (bs : List ℕ) → Writes q us (92 ∷ bs) → Escaped q us bs
escaped bs w = escaped_by bs w refl

-- the same bytes mean the same units
pub determined : {q : ℕ} {us vs bs : List ℕ} → Writes q us bs → Writes q vs bs → us ≡ vs
determined Nothing v = sym (ended v)
determined (One c us bs scalar no_quote no_control no_slash w) v =
    let front = raw c bs no_slash v in
    ap (λ l. encode_utf16 c ++ l) (determined w front.2) ∙ sym front.1
determined {q} (Short b us bs no_u is w) v =
    let front = escaped (b ∷ bs) v in
    let unit : escape_unit (b ∷ bs) ≡ short_unit b = rw no_u refl in
    let behind : Writes q front.more bs = rw no_u at front.behind in
    ap (λ l. short_unit b ∷ l) (determined w behind) ∙ ap (λ u. u ∷ front.more) (sym unit) ∙ sym front.units
determined (Unicode x y z t us bs four w) v =
    let front = escaped (117 ∷ x ∷ y ∷ z ∷ t ∷ bs) v in
    ap (λ l. four_value x y z t ∷ l) (determined w front.behind) ∙ sym front.units

-- what stands between the quotes
pub inner_is : (q : ℕ) (us text : List ℕ) (l : IsLiteral q us text) → take (length text - 1 - 1) (drop 1 text) ≡ l.inner
inner_is q us text l =
    let size : length text - 1 - 1 ≡ length l.inner = omega (arith, ap length l.quoted, length-append l.inner (q ∷ [])) in
    ap (λ n. take n (drop 1 text)) size ∙ ap (λ t. take (length l.inner) (drop 1 t)) l.quoted ∙ take-append_seam l.inner (q ∷ [])

-- a text is a literal of one list of units
pub literal_determined : {q : ℕ} {us vs text : List ℕ} → IsLiteral q us text → IsLiteral q vs text → us ≡ vs
literal_determined {q} {us} {vs} {text} l m =
    let same = sym (inner_is q us text l) ∙ inner_is q vs text m in
    determined (subst (Writes q us) same l.writes) m.writes

-- ---- a string literal that is read as far as some units

pub record IsReadTo (text units rest : List ℕ) : Type 0 where
  pub more : List ℕ
  pub writes : Writes 34 more rest
  pub whole : IsString (units ++ more) text

grown : (text units front more : List ℕ) → IsString (units ++ (front ++ more)) text → IsString ((units ++ front) ++ more) text
grown text units front more whole = subst (λ us. IsString us text) (sym (append_assoc units front more)) whole

-- all is read
pub read_all : (text units rest us : List ℕ) → IsReadTo text units rest → length rest ≡ 0 → IsString us text → units ≡ us
read_all text units rest us read none is =
    let last : units ++ read.more ≡ units = ap (λ l. units ++ l) (nothing_left read.writes none) ∙ append-nil units in
    sym last ∙ literal_determined read.whole is

-- a character more is read
pub read_raw : (text units rest bs : List ℕ) (c : ℕ) → IsReadTo text units rest → rest ≡ encode_utf8 c ++ bs → (c == 92) ≡ false → IsReadTo text (units ++ encode_utf16 c) bs
read_raw text units rest bs c read e apart =
    let front = raw c bs apart (subst (Writes 34 read.more) e read.writes) in
    record { more = front.0; writes = front.2; whole = grown text units (encode_utf16 c) front.0 (subst (λ l. IsString (units ++ l) text) front.1 read.whole) }

-- behind a backslash
pub after_backslash : {q : ℕ} {us : List ℕ} (rest bs : List ℕ) (c : ℕ) → Writes q us rest → rest ≡ encode_utf8 c ++ bs → c ≡ 92 → Escaped q us bs
after_backslash {q} {us} rest bs c w e is =
    let at : rest ≡ 92 ∷ bs = e ∙ ap (λ x. encode_utf8 x ++ bs) is ∙ ap (λ l. l ++ bs) (encode_ascii 92 (omega arith)) in
    escaped bs (subst (Writes q us) at w)

-- an escape more is read
pub read_escape : (text units rest bs : List ℕ) (c : ℕ) → IsReadTo text units rest → rest ≡ encode_utf8 c ++ bs → c ≡ 92
    → IsReadTo text (units ++ escape_unit bs ∷ []) (drop (escape_length bs) bs)
read_escape text units rest bs c read e is =
    let front = after_backslash rest bs c read.writes e is in
    record { more = front.more; writes = front.behind; whole = grown text units (escape_unit bs ∷ []) front.more (subst (λ l. IsString (units ++ l) text) front.units read.whole) }
