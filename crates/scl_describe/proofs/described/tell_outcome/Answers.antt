use Rattle.std.proofs.Common.{rules, ◌≡◌, map, option_copied, option_map, string_bytes}
use Rattle.scl_rows.specs.Rows.{refused_at, told}
use Rattle.scl_describe.proofs.described.tell_outcome.Goals as goal

pub returns-in-Ok : goal.returns-in-Ok
returns-in-Ok g c = rw c.in-Ok.is c.tell_compilation.ensures

pub returns-in-CannotCache : goal.returns-in-CannotCache
returns-in-CannotCache g c =
    let index : c.refused_at-at.result ≡ refused_at (map told c.args.described.now.options.items) = rw c.deref.ensures.value at c.refused_at-at.ensures in
    let because : option_copied c.as_deref.result ≡ option_map string_bytes c.in-CannotCache.because = search (rules, c.as_deref.ensures) in
    rw c.in-CannotCache.is (rw (index, because) at c.tell_refusal.ensures)

pub returns-in-NotCompilation : goal.returns-in-NotCompilation
returns-in-NotCompilation g c =
    let index : c.refused_at-at.result ≡ refused_at (map told c.args.described.now.options.items) = rw c.deref.ensures.value at c.refused_at-at.ensures in
    rw c.in-NotCompilation.is (rw index at c.tell_undone.ensures)
