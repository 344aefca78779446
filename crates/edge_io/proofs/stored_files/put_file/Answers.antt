use Rattle.edge_io.proofs.Stored.{files_in-replaced, files_in-added}
use Rattle.edge_io.proofs.stored_files.put_file.Goals as goal

-- The file replaces the one that had the name.
pub returns-in-Some-clause-ok : goal.returns-in-Some-clause-ok
returns-in-Some-clause-ok c =
    files_in-replaced _ c.deref.result.now _ _ _ _ c.in_ok-to_owned.ensures.ok (c.in_ok-to_vec.ensures.items_if_clones_equal (λ x y same. same))
    c.deref.ensures.value c.in-Some.ensures

-- The file comes after those with other names.
pub returns-in_ok-push-in-None-clause-ok : goal.returns-in_ok-push-in-None-clause-ok
returns-in_ok-push-in-None-clause-ok c =
    files_in-added _ c.deref.result.now _ _ _ _ c.in_ok-to_owned.ensures.ok (c.in_ok-to_vec.ensures.items_if_clones_equal (λ x y same. same))
    c.deref.ensures.value c.in-None.ensures c.in_ok-push-in-None.ensures.items
