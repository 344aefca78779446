-- If the files of the shelf are observable and no error occurred, arguments and files determine the reply, up to a relation.
use Rattle.std.proofs.Common.{◌≡◌, ◌⊎◌, inl, inr, ℕ, List, Option, None, Some, refl}
use Rattle.std.specs.Prelude.{IfSome}
use Rattle.edge_io.specs.Counts.{Rose}
use Rattle.edge_io.specs.Observable.{Files}
use Rattle.run_core.specs.Outcomes.{Outcomes}
use Rattle.run_core.specs.Program.{Program}
use Rattle.run_core.specs.Promises.{DeliversReply, IsCompleteUpTo}
use Rattle.run_core.specs.Replies.{AllowsReply, RepliesTo, observable_shelf}
use Rattle.run_core.specs.Reply.{Reply, no_memory}
use Rattle.run_core.specs.Shelf.{ShelfChange}
use Rattle.run_core.specs.SinkChanges.{SinkChange, IsDelivered}
use Rattle.run_core.specs.declared.status.Status.{Status}
use Rattle.run_core.specs.declared.status.Status.TheVariants as status
use Rattle.run_core.proofs.CommandPlanLaws.{HoldsAtEnds, given_as_told, holds_at_ends}
use Rattle.run_core.proofs.OutcomesLaws.{AreApart, AreKept}
use Rattle.run_core.proofs.RunLaws.{ends_in_error}

module _ (program : Program) (kept : (command : program.Command) → HoldsAtEnds AreKept (program.plan_of command)) where
  -- The reply is an allocation failure, or a reply for the observable files.
  may_as_told : (words : List (List ℕ)) (shelf : ShelfChange) (files : Files) (given : Reply) → shelf.before.told ≡ Some files → (Rose shelf.before.faults shelf.after.faults → ⊥)
      → AllowsReply program words shelf given → (given ≡ no_memory) ⊎ RepliesTo program words files given
  may_as_told words shelf files given told no_fault (inl nothing) = inr (inl (nothing.0, nothing.1))
  may_as_told words shelf files given told no_fault (inr asks) =
      let apart = holds_at_ends AreKept AreApart (λ (outcomes : Outcomes) keep. keep.apart) (program.plan_of asks.0) (kept asks.0) in
      elim (given_as_told shelf.only_failures (program.reports_on_output asks.0) (program.plan_of asks.0) shelf.before shelf.after (observable_shelf files) files given apart told refl no_fault asks.2) [
        | inl lack ↦ inl lack
        | inr replies ↦ inr (inr (asks.0, asks.1, replies))
      ]

  pub complete_law : (AreRelated : (given other : Reply) → Type 0) (words : List (List ℕ))
      → ((files : Files) (given other : Reply) → RepliesTo program words files given → RepliesTo program words files other → AreRelated given other)
      → (shelf : ShelfChange) (out err : SinkChange) (s : Status) → DeliversReply program words shelf out err s → IsCompleteUpTo program AreRelated words shelf out err s
  complete_law AreRelated words related shelf out err s gave = by_told shelf.before.told refl
    where
      by_told : (told : Option Files) → shelf.before.told ≡ told
          → IfSome told (λ files. (Rose shelf.before.faults shelf.after.faults → ⊥)
          → (s ≡ status.Memory) ⊎ ((reply : Reply) × RepliesTo program words files reply × ((other : Reply) → RepliesTo program words files other → AreRelated reply other) × IsDelivered out err reply s))
      by_told None is = tt
      by_told (Some files) is = λ no_fault. elim (may_as_told words shelf files gave.reply is no_fault gave.allowed) [
        | inl lack ↦ inl (ends_in_error out err s gave.reply status.Memory no_memory.text lack gave.given).0
        | inr allowed ↦ inr (gave.reply, allowed, λ other replies. related files gave.reply other allowed replies, gave.given)
      ]
