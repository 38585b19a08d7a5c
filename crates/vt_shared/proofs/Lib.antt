-- owners come and go, and lend, whatever they own
pub mod Census
pub mod Lending
-- the same at a block, and the thread's token
pub mod Memory
pub mod Thread
