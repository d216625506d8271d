-- Which payload stands in units, by its header.
use Rattle.std.proofs.Common.{◌≡◌, ℕ, ◌≤◌, true, List, ◌++◌, length, take, drop, Option, Some, None, IsSomeAnd, refl, ap, sym, ◌∙◌, subst}
use Rattle.std.proofs.lemmas.List.{length-take-le, take-append-drop}
use Rattle.dv_defs.specs.declared.code.Payload.{Payload}
use Rattle.dv_defs.specs.Spelling.{all_fit}
use Rattle.dv_defs.specs.Tiling.{SizedPayload}
use Rattle.dv_defs.specs.Payloads.{payload_spelling, payload_here}
use Rattle.dv_defs.proofs.PayloadLaws.{spelled_payload_reads, payload_here_spelled}
use Rattle.dv_units.specs.declared.header.Header.{Header}
use Rattle.dv_units.specs.declared.header.Header.TheVariants as header
use Rattle.dv_units.specs.Reading.{StandAt}
use Rattle.dv_units.specs.Payloads.{IsHeader, header_size, PayloadStandsAt, NoPayloadStandsAt}
use Rattle.dv_units.proofs.Decoding.{fit_from}
use Rattle.dv_units.proofs.Headers.{sized_by}

pub stands_here : (p : Payload) (us rest : List ℕ) → payload_spelling p ≡ Some us → us ≡ take (length us) rest → payload_here rest ≡ Some (record { payload = p; size = length us })
stands_here p us rest e h =
    let whole : rest ≡ us ++ drop (length us) rest = sym (take-append-drop (length us) rest) ∙ ap (λ xs. xs ++ drop (length us) rest) (sym h) in
    ap payload_here whole ∙ spelled_payload_reads p us (drop (length us) rest) e

pub none_stands : (rest : List ℕ) (p : Payload) (us : List ℕ) → payload_here rest ≡ None → payload_spelling p ≡ Some us → us ≡ take (length us) rest → ⊥
none_stands rest p us n e h = cc (n, stands_here p us rest e h)

parts : (x y : SizedPayload) → (let o : Option SizedPayload = Some x in o) ≡ Some y → (x.payload ≡ y.payload) × (x.size ≡ y.size)
parts x y e = let h : x ≡ y = cc in (ap (λ z. z.payload) h, ap (λ z. z.size) h)

pub size_is : (h : Header) (rest : List ℕ) (p : Payload) (us : List ℕ) → IsHeader h rest → payload_spelling p ≡ Some us → us ≡ take (length us) rest → header_size h ≡ length us
size_is h rest p us i e s =
    let (q, t) = sized_by h rest i in
    (parts (record { payload = q; size = header_size h }) (record { payload = p; size = length us }) (sym t ∙ stands_here p us rest e s)).1

pub spelled_by : (h : Header) (units : List ℕ) (at n : ℕ) (rest : List ℕ) → all_fit 16 units ≡ true → rest ≡ drop at units → IsHeader h rest → n ≡ header_size h → (p : Payload) × (payload_spelling p ≡ Some (take n (drop at units)))
spelled_by h units at n rest t r i e =
    let P : List ℕ → Type 0 = λ xs. IsHeader h xs in
    let (p, s) = sized_by h (drop at units) (subst P r i) in
    let k = payload_here_spelled (drop at units) p (header_size h) (fit_from at units t) s in
    (p, k.1 ∙ ap (λ m. Some (take m (drop at units))) (sym e))

pub header_room : (h : Header) (us : List ℕ) → IsHeader h us → header_size h ≤ length us
header_room (header.Packed n) us i = i.1
header_room (header.Sparse n) us i = i.1
header_room (header.Data width m) us i = i.3

pub taken_stands : (n : ℕ) (us : List ℕ) → n ≤ length us → take n us ≡ take (length (take n us)) us
taken_stands n us h = ap (λ k. take k us) (sym (length-take-le n us h))

-- a payload that was read by its header
pub read_stands : (h : Header) (p : Payload) (units : List ℕ) (at : ℕ) (rest : List ℕ) → rest ≡ drop at units → IsHeader h rest → payload_spelling p ≡ Some (take (header_size h) rest) → PayloadStandsAt p units at
read_stands h p units at rest r i e =
    let P : Option (List ℕ) → Type 0 = λ o. IsSomeAnd o (λ us. StandAt us units at) in
    let Q : List ℕ → Type 0 = λ xs. take (header_size h) rest ≡ take (length (take (header_size h) rest)) xs in
    subst P (sym e) (subst Q r (taken_stands (header_size h) rest (header_room h rest i)))

pub read_is : (h : Header) (p q : Payload) (us units : List ℕ) (at : ℕ) (rest : List ℕ) → rest ≡ drop at units → IsHeader h rest → payload_spelling q ≡ Some (take (header_size h) rest) → payload_spelling p ≡ Some us → StandAt us units at → q ≡ p
read_is h p q us units at rest r i e k s =
    let a = stands_here q (take (header_size h) rest) rest e (taken_stands (header_size h) rest (header_room h rest i)) in
    let b = stands_here p us rest k (s ∙ ap (λ xs. take (length us) xs) (sym r)) in
    (parts (record { payload = q; size = length (take (header_size h) rest) }) (record { payload = p; size = length us }) (sym a ∙ b)).0

-- where a header was found, a payload stands
pub some_stands : (h : Header) (units : List ℕ) (at : ℕ) (rest : List ℕ) → all_fit 16 units ≡ true → rest ≡ drop at units → IsHeader h rest → NoPayloadStandsAt units at → ⊥
some_stands h units at rest t r i none =
    let (p, e) = spelled_by h units at (header_size h) rest t r i refl in
    let P : List ℕ → Type 0 = λ xs. IsHeader h xs in
    none p _ e (taken_stands (header_size h) (drop at units) (header_room h (drop at units) (subst P r i)))

pub no_header : (units : List ℕ) (at : ℕ) (rest : List ℕ) → rest ≡ drop at units → payload_here rest ≡ None → NoPayloadStandsAt units at
no_header units at rest r n = λ p us e s. none_stands rest p us n e (s ∙ ap (λ xs. take (length us) xs) (sym r))
