use Rattle.std.proofs.Common.{ℕ, List, ◌∷◌, [], ◌++◌, take, map, sym, ap, ◌∙◌}
use Rattle.std.proofs.lemmas.List.{map_more}
use Rattle.std.specs.Prelude.{Vec}
use Rattle.std.specs.declared.alloc.Global.{Global}
use Rattle.scl_values.specs.Words.{words_of}
use Rattle.scl_base_dirs.specs.Bases.{quoted}
use Rattle.scl_base_dirs.specs.Runs.{mapped_text}
use Rattle.scl_base_dirs.proofs.RunLemmas.{pieces_step}
use Rattle.scl_base_dirs.proofs.run.map_pieces.Goals as goal

pub loop-piece-preserved : goal.loop-piece-preserved
loop-piece-preserved c =
    let taken = words_of (take c.loop-piece.piece-index c.args.pieces.now) in
    let next = map_more (λ (w : Vec ℕ Global). w.items) c.args.pieces.now c.loop-piece.piece-index c.piece-item.result c.loop-piece-test.true in
    pieces_step (mapped_text (map (quoted c.args.quoting) (words_of c.args.dirs.now))) c.loop-piece.mapper c.in_ok-next.next c.loop-piece.mapped.items c.extend_from_slice.new.self.items c.in_ok-next.text.items c.deref.result.now taken _
    c.loop-piece.invariant c.in_ok-next.ensures.mapped (c.in_ok-extend_from_slice.ensures.items ∙ ap (λ (t : List ℕ). c.loop-piece.mapped.items ++ t) c.deref-in-loop-piece.ensures.value)
    (next ∙ ap (λ (w : Vec ℕ Global). taken ++ w.items ∷ []) (sym c.piece-item.is) ∙ ap (λ (t : List ℕ). taken ++ t ∷ []) (sym c.deref.ensures.value))
