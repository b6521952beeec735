-- Operation Layout: plots leave what lies beyond the square, and the answers.
use Rattle.general.proofs.Names.{◌≡◌, sym, ap, subst, ◌∙◌, List, ◌++◌, ℕ, ◌+◌, ◌-◌, ◌*◌, ◌<◌, ◌≤◌, dec_lt, arith, lit<, length, get_or, drop, length-append}
use Rattle.general.proofs.Names.{get_or-append, get_or-append-add, ext_get_or, lt-ltb, le-ltb, le-leb, lt-leb, ne_eqb}
use Rattle.symbol.specs.Version.{side_of, is_version}
use Rattle.symbol.specs.Layout.{Plot, plot_all, corners, alignment, layout_of, layout_refusal, layout_written}
use Rattle.symbol.specs.Inner.{Plotted, Stored, drawn, corner_kind}
use Rattle.symbol.proofs.FirstPlot.{first, all_length, all_at, all_beyond}
use Rattle.symbol.proofs.Stored.{stored_all}
use Rattle.general.proofs.Lists.{length_table}

-- two lists of one length before the same list
tail_same : (a b r : List ℕ) (i : ℕ) → length a ≡ length b → length a ≤ i → get_or (a ++ r) i 0 ≡ get_or (b ++ r) i 0
tail_same a b r i e h =
    let p : i ≡ length a + (i - length a) = omega arith in
    let q : length b + (i - length a) ≡ i = omega arith in
    ap (λ (n : ℕ). get_or (a ++ r) n 0) p ∙ get_or-append-add a r (i - length a) 0
    ∙ sym (ap (λ (n : ℕ). get_or (b ++ r) n 0) (sym q) ∙ get_or-append-add b r (i - length a) 0)

pub plot_all_beyond : (s : ℕ) (ps : List Plot) (g r : List ℕ) → length g ≡ s * s → plot_all s ps (g ++ r) ≡ plot_all s ps g ++ r
plot_all_beyond s ps g r h =
    ext_get_or 0 (plot_all s ps (g ++ r)) (plot_all s ps g ++ r)
    (omega (arith, long, length-append g r, all_length s ps (g ++ r), length-append (plot_all s ps g) r))
    (λ i l. elim (dec_lt i (s * s)) [
      | yes k ↦ all_at s ps (g ++ r) i k (omega (arith, length-append g r)) ∙ ap (λ (a : ℕ). drawn a (first s ps i))
          (get_or-append g r 0 i (omega arith))
          ∙ sym (get_or-append (plot_all s ps g) r 0 i (omega (arith, long)) ∙ all_at s ps g i k (omega arith))
      | no k ↦ all_beyond s ps (g ++ r) i (omega arith) ∙ tail_same g (plot_all s ps g) r i (sym long) (omega arith)
    ])
  where
    long : length (plot_all s ps g) ≡ length g
    long = all_length s ps g

pub corners_length : (s : ℕ) → length (corners s) ≡ s * s
unfolding corners
corners_length s = length_table (s * s) (corner_kind s)

module _ (v : ℕ) (out : List ℕ) where
  refused : (n : ℕ) → 0 < n → n ≡ layout_refusal v out → (n ≡ layout_refusal v out) × (out ≡ layout_written v out)
  unfolding layout_written
  refused n h e = (e, rw (← e) (simp (ne_eqb n 0 (λ z. omega arith))))

  pub too_low : v < 1 → (1 ≡ layout_refusal v out) × (out ≡ layout_written v out)
  unfolding layout_refusal is_version
  too_low h = refused 1 (lit< tt) (simp (lt-leb 1 v h))

  pub too_high : 1 ≤ v → 84 < v → (1 ≡ layout_refusal v out) × (out ≡ layout_written v out)
  unfolding layout_refusal is_version
  too_high l h = refused 1 (lit< tt) (simp (le-leb 1 v l, lt-leb v 84 h))

  module _ (l : 1 ≤ v) (h : v ≤ 84) where
    pub too_short : length out < side_of v * side_of v → (2 ≡ layout_refusal v out) × (out ≡ layout_written v out)
    unfolding layout_refusal is_version
    too_short k = refused 2 (lit< tt) (simp (le-leb 1 v l, le-leb v 84 h, lt-ltb (length out) (side_of v * side_of v) k))

    module _ (room : side_of v * side_of v ≤ length out) where
      answered : 0 ≡ layout_refusal v out
      unfolding layout_refusal is_version
      answered = simp (le-leb 1 v l, le-leb v 84 h, le-ltb (length out) (side_of v * side_of v) room)

      -- the corners, by the side that the code worked out
      module _ {s : ℕ} (e : s ≡ side_of v) {g : List ℕ} (f : Stored (corner_kind s) 0 (s * s) out g) where
        filled : g ≡ corners (side_of v) ++ drop (side_of v * side_of v) out
        unfolding corners
        filled = stored_all room (subst (λ (k : ℕ). Stored (corner_kind k) 0 (k * k) out g) e f)

        pub small : v < 4 → (0 ≡ layout_refusal v out) × (g ≡ layout_written v out)
        unfolding layout_written layout_of plot_all
        small t = (answered, rw (← answered) (simp (lt-ltb v 4 t) filled))

        pub large : 4 ≤ v → {w k : ℕ} {g' : List ℕ} → w ≡ v → k ≡ side_of w → Plotted k (alignment w) g g'
            → (0 ≡ layout_refusal v out) × (g' ≡ layout_written v out)
        unfolding layout_written layout_of
        large t {w} {k} {g'} d z p =
            let q : Plotted (side_of v) (alignment v) g g' = subst (λ (n : ℕ). Plotted (side_of n) (alignment n) g g') d
            (subst (λ (n : ℕ). Plotted n (alignment w) g g') z p) in (
              answered,
              rw (← answered)
                  (simp (le-ltb v 4 t)
                  (q.is ∙ ap (plot_all (side_of v) (alignment v)) filled
                  ∙ plot_all_beyond (side_of v) (alignment v) (corners (side_of v)) (drop (side_of v * side_of v) out) (corners_length (side_of v)))),
            )
