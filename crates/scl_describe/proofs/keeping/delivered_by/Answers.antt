use Rattle.scl_describe.proofs.keeping.delivered_by.Goals as goal

pub returns : goal.returns
returns c = rw c.deref.ensures.value at c.deliver.ensures
