-- The definitions of this crate that other crates cite, under one name.
pub use Rattle.sc_thread_work.specs.lend.Lending.{lender, helper, with_lent, with_held, with_back, IsLoan, AllLoans, Knows, Lent, IsOut, Taken, MayGiveBack, Finished, IsLeft, IsLentUnder, IsLonger}
pub use Rattle.sc_thread_work.specs.lend.Offices.{IsLenderOf, collected_by, lent_by, IsHelperOf}
