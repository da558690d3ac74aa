-- The firsts cleared, then the pieces linked. Assumes nothing.
use Rattle.std.proofs.Common.{rules, ◌*◌}
use Rattle.sewing.proofs.Chains.{cleared, link_end, fill_put}
use Rattle.sewing.proofs.links.link.Goals as goal

pub chain-requires : goal.chain-requires
chain-requires c =
    let a = c.args in
    cleared a.n a.sections a.wholes.now _ c.requires (fill_put a.wholes.now _ (4 * a.n) a.sections a.n c.requires.room (c.fill.ensures.after (λ y h. search rules)))

pub returns : goal.returns
returns c =
    let a = c.args in
    link_end a.n a.sections a.wholes.now _ c.requires (fill_put a.wholes.now _ (4 * a.n) a.sections a.n c.requires.room (c.fill.ensures.after (λ y h. search rules))) _ c.chain.ensures
