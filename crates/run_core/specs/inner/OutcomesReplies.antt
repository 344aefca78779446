-- The replies of the code by outcomes. No promise of `run` depends on it.
use Rattle.std.specs.Prelude.{Result, Ok, Err}
use Rattle.std.specs.declared.alloc.AllocError.{AllocError}
use Rattle.run_core.specs.Reply.{Reply, no_memory}
use Rattle.run_core.specs.inner.Views.{reply_view}
use Rattle.run_core.specs.declared.answer.Answer.{Answer}

-- The reply of a result, or of an allocation failure.
abbrev pub outcomes_reply : Result Answer AllocError → Reply
outcomes_reply (Ok given) = reply_view given
outcomes_reply (Err _) = no_memory
