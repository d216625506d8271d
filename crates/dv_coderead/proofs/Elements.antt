-- The elements of a line, number by number.
use Rattle.std.proofs.Common.{◌≡◌, ℕ, ◌+◌, ◌<◌, ◌≤◌, ℤ, List, [], ◌∷◌, ◌++◌, length, drop, slice_index_or, Result, Ok, Err, refl, sym, ap, ◌∙◌, append-nil, append_assoc}
use Rattle.std.proofs.lemmas.List.{at_drop_all, at_drop_more}
use Rattle.dv_defs.specs.declared.faults.LineKind.{LineKind}
use Rattle.dv_coderead.specs.declared.pieces.Piece.{Piece as CodePiece}
use Rattle.dv_coderead.specs.Giving.{◌>>=◌}
use Rattle.dv_coderead.specs.Pieces.{Piece, piece_in, pieces_in}
use Rattle.dv_coderead.specs.BodyLines.{and_element, element_in, elements_in}

-- elements in front of those that are read
abbrev pub in_front : List ℤ → Result (List ℤ) LineKind → Result (List ℤ) LineKind
in_front zs (Ok ys) = Ok (zs ++ ys)
in_front zs (Err k) = Err k

none_in_front : (r : Result (List ℤ) LineKind) → in_front [] r ≡ r
none_in_front (Ok ys) = refl
none_in_front (Err k) = refl

one_in_front : (zs : List ℤ) (z : ℤ) (r : Result (List ℤ) LineKind) → in_front zs (and_element z r) ≡ in_front (zs ++ z ∷ []) r
one_in_front zs z (Ok ys) = ap Ok (sym (append_assoc zs (z ∷ []) ys))
one_in_front zs z (Err k) = refl

module _ (width : ℕ) where
  no_elements : elements_in width [] ≡ Ok []
  unfolding elements_in
  no_elements = refl

  element_first : (z : ℤ) (p : Piece) (ps : List Piece) → element_in width p ≡ Ok z → elements_in width (p ∷ ps) ≡ and_element z (elements_in width ps)
  unfolding elements_in
  element_first z p ps is = ap (λ r. r >>= λ z. and_element z (elements_in width ps)) is

  refused_first : (k : LineKind) (p : Piece) (ps : List Piece) → element_in width p ≡ Err k → elements_in width (p ∷ ps) ≡ Err k
  unfolding elements_in
  refused_first k p ps is = ap (λ r. r >>= λ z. and_element z (elements_in width ps)) is

  module _ (ps : List CodePiece) where
    -- the elements of the pieces from a place on stand behind these
    abbrev pub IsSoFar : ℕ → List ℤ → Type 0
    IsSoFar at zs = in_front zs (elements_in width (pieces_in (drop at ps))) ≡ elements_in width (pieces_in ps)

    -- before the first piece
    pub at_start : IsSoFar 0 []
    at_start = none_in_front (elements_in width (pieces_in ps))

    module _ (at : ℕ) (zs : List ℤ) (so_far : IsSoFar at zs) where
      -- behind the last
      pub at_end : length ps ≤ at → elements_in width (pieces_in ps) ≡ Ok zs
      at_end le = sym so_far ∙ at_drop_all (λ l. in_front zs (elements_in width (pieces_in l))) ps at le ∙ ap (in_front zs) no_elements ∙ ap Ok (append-nil zs)

      module _ (p : CodePiece) (lt : at < length ps) (is : p ≡ slice_index_or ps at p) where
        abbrev rest : List Piece
        rest = pieces_in (drop (at + 1) ps)

        -- the elements of the piece at the place and of those behind it
        elements_here : in_front zs (elements_in width (piece_in p ∷ rest)) ≡ elements_in width (pieces_in ps)
        elements_here =
            sym (ap (λ l. in_front zs (elements_in width l)) (at_drop_more pieces_in ps at p lt ∙ ap (λ x. piece_in x ∷ rest) (sym is))) ∙ so_far

        -- the piece is an element
        pub one_more : (z : ℤ) → element_in width (piece_in p) ≡ Ok z → IsSoFar (at + 1) (zs ++ z ∷ [])
        one_more z e = sym (ap (in_front zs) (element_first z (piece_in p) rest e) ∙ one_in_front zs z (elements_in width rest)) ∙ elements_here

        -- it is none
        pub refused : (k : LineKind) → element_in width (piece_in p) ≡ Err k → elements_in width (pieces_in ps) ≡ Err k
        refused k e = sym elements_here ∙ ap (in_front zs) (refused_first k (piece_in p) rest e)
