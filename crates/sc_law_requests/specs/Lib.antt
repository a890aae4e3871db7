pub mod MoreRequests
